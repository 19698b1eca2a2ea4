use Rattle.std.proofs.Common.{◌≡◌, List, false, rules, subst}
use Rattle.gql_pairs.specs.Groups.{KeptGroup}
use Rattle.gql_pairs.specs.Tables.{HasPair}
use Rattle.gql_pairs.proofs.Searching.{has_not, none_all, none_more}
use Rattle.gql_pairs.proofs.table.PairTable.has.Goals as goal

pub loop-group-preserved : goal.loop-group-preserved
loop-group-preserved c =
    let no : c.has.result ≡ false = search rules in
    let this : c.get.result.now ≡ c.group-item.result = search rules in
    none_more c.as_slice-group-items.result.now c.loop-group.group-index c.group-item.result c.loop-group-test.true c.group-item.is c.args.first.now c.args.second.now c.loop-group.invariant
    (has_not c.group-item.result c.get.result.now c.args.first.now c.args.second.now c.has.result no this c.has.ensures)

pub returns : goal.returns
returns c =
    let same : c.as_slice-group-items.result.now ≡ c.args.self.now = search rules in
    let never = none_all c.as_slice-group-items.result.now c.loop-group.group-index c.args.first.now c.args.second.now c.loop-group-test.false c.loop-group.invariant in
    let none : HasPair c.args.self.now c.args.first.now c.args.second.now → ⊥ =
    subst (λ (gs : List KeptGroup). HasPair gs c.args.first.now c.args.second.now → ⊥) same (λ h. never h.0 h.1) in
    (λ t. absurd (cc t), λ h. absurd (none h))
