use Rattle.std.proofs.Common.{◌+◌, subst, sym}
use Rattle.gql_check.specs.Faults.{AreRefused}
use Rattle.gql_registry.specs.Changes.{edit_of}
use Rattle.gql_check.proofs.Lists.{found_at}
use Rattle.gql_check.proofs.Refused.{left_out, put_in}
use Rattle.gql_check.proofs.refusals.add_refused.Goals as goal

pub returns-in_ok-push : goal.returns-in_ok-push
returns-in_ok-push c = λ before.
    let puts = c.args.puts.now.puts.items in
    let indices = c.args.puts.now.indices.items in
    let put = c.in-Some-Some.put.now in
    let file = c.in-Some-Some.file.now in
    let lookup = c.in-Some-Some.ensures.lookup in
    let index = c.in-Some-Some.ensures'.lookup in
    subst (AreRefused c.args.profile (edit_of puts) indices (c.args.at + 1)) (sym c.in_ok-push.ensures.items)
    (put_in c.args.profile puts indices c.args.at file put c.args.refused.now.items c.file_fault.result c.in_ok-refusal.field-0 c.in-Some.refusal
    (found_at puts c.deref.result.now c.args.at put c.deref.ensures.value lookup.3.0 lookup.1)
    (found_at indices c.deref-2.result.now c.args.at file c.deref-2.ensures.value index.3.0 index.1)
    c.in_ok-refusal.ensures c.in-Some.is c.file_fault.ensures before)

pub returns-in_default-2 : goal.returns-in_default-2
returns-in_default-2 c =
    let puts = c.args.puts.now.puts.items in
    let put = c.in-Some-Some.put.now in
    let lookup = c.in-Some-Some.ensures.lookup in
    left_out c.args.profile puts c.args.puts.now.indices.items c.args.at put c.args.refused.now.items c.in_ok-refusal.field-0 (found_at puts c.deref.result.now c.args.at put c.deref.ensures.value lookup.3.0 lookup.1)
    c.in_ok-refusal.ensures c.in_default-2.not-Some
