use Rattle.std.proofs.Common.{◌<◌, map, length, sym, ◌∙◌, arith}
use Rattle.serde_json.specs.View.{view}
use Rattle.gql_steps.specs.Asked.{asked_members}
use Rattle.gql_steps.specs.Resolution.{meets}
use Rattle.gql_steps.proofs.Printing.{found_here, found_later, item_at}
use Rattle.gql_steps.proofs.filter.first_by_all.Goals as goal

pub returns-then-branch : goal.returns-then-branch
returns-then-branch c =
    let p = meets (asked_members c.args.asked.now) in
    let items = c.args.items.now in
    let item = c.index-items-i.result in
    let within : c.loop-i.i < length items = omega arith in
    let same = c.in_ok-meets_at.ensures (map view items) c.requires (item_at items c.loop-i.i item within c.index-items-i.is) in
    sym (c.loop-i.invariant ∙ found_here p items c.loop-i.i item within c.index-items-i.is (sym same ∙ c.if-branch.true))

pub loop-i-preserved : goal.loop-i-preserved
loop-i-preserved c =
    let p = meets (asked_members c.args.asked.now) in
    let items = c.args.items.now in
    let item = c.index-items-i.result in
    let within : c.loop-i.i < length items = omega arith in
    let same = c.in_ok-meets_at.ensures (map view items) c.requires (item_at items c.loop-i.i item within c.index-items-i.is) in
    c.loop-i.invariant ∙ found_later p items c.loop-i.i item within c.index-items-i.is (sym same ∙ c.if-branch.false)
