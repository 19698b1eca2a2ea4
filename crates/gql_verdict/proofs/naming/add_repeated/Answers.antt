use Rattle.std.proofs.Common.{◌++◌, ◌∷◌, [], ◌∙◌, ap, sym, map, bytes_eq, nat_lt, if◌then◌else◌}
use Rattle.gql_verdict.specs.Borrowed.{named}
use Rattle.gql_verdict.specs.Naming.{Named, fault_if_repeated, fault_of_name, text_of}
use Rattle.gql_verdict.proofs.Adding.{append_none, count_map, mapped_step, none_repeated}
use Rattle.gql_verdict.proofs.naming.add_repeated.Goals as goal

pub returns-then-not-repeated : goal.returns-then-not-repeated
returns-then-not-repeated c =
    let base = c.args.faults.now.items in
    sym (append_none base)
    ∙ ap (λ l. base ++ l) (sym (none_repeated c.args.rule (map named c.args.all.now) (c.in_ok-repeated.ensures c.if-not-repeated.true)))

pub loop-one-preserved : goal.loop-one-preserved
loop-one-preserved c =
    let all = c.args.all.now in
    let x = c.one-item.result in
    let q = x.name.now.text in
    mapped_step (fault_if_repeated c.args.rule (map named all)) named all c.loop-one.one-index x c.loop-one-test.true (sym c.one-item.is)
    c.args.faults.now.items _ _ c.loop-one.invariant
    (c.in_ok-add_if_repeated.ensures ∙ ap (λ b. c.loop-one.faults.items ++ (if b then fault_of_name c.args.rule (named x) ∷ [] else []))
    (c.in_ok-counts.ensures q ∙ ap (nat_lt 1) (sym (count_map (λ (n : Named). bytes_eq q (text_of n)) named all))))
