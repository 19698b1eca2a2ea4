use Rattle.std.proofs.Common.{◌≡◌, rules}
use Rattle.std.specs.Prelude.{false, is_some}
use Rattle.gql_pairs.proofs.Searching.{none_all, none_more, not_found}
use Rattle.gql_pairs.proofs.table.pair_in.Goals as goal

pub loop-group-preserved : goal.loop-group-preserved
loop-group-preserved c =
    let no : is_some c.in_ok-found.found ≡ false = search rules in
    let this : c.get.result.now ≡ c.group-item.result = search rules in
    none_more c.args.groups.now c.loop-group.group-index c.group-item.result c.loop-group-test.true c.group-item.is c.args.first.now c.args.second.now c.loop-group.invariant
    (not_found c.group-item.result c.get.result.now c.args.first.now c.args.second.now c.in_ok-found.found no this c.in_ok-found.ensures.value)

pub returns-clause-value : goal.returns-clause-value
returns-clause-value c = none_all c.args.groups.now c.loop-group.group-index c.args.first.now c.args.second.now c.loop-group-test.false c.loop-group.invariant
