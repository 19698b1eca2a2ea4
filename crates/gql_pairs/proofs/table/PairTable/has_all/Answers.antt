use Rattle.std.proofs.Common.{◌≡◌, Contains, List, rules, subst, true}
use Rattle.gql_facts.specs.declared.fact.FragmentFact.{FragmentFact}
use Rattle.gql_merge.specs.Between.{name_of}
use Rattle.gql_pairs.specs.Groups.{HasMember, KeptGroup}
use Rattle.gql_pairs.specs.Tables.{HasPairs}
use Rattle.gql_pairs.proofs.Searching.{pairs_here}
use Rattle.gql_pairs.proofs.table.PairTable.has_all.Goals as goal

pub returns-then-has_all : goal.returns-then-has_all
returns-then-has_all c =
    let same : c.as_slice-group-items.result.now ≡ c.args.self.now = search rules in
    let yes : c.has_all.result ≡ true = search rules in
    let this : c.get.result.now ≡ c.group-item.result = search rules in
    λ _. subst (λ (gs : List KeptGroup). HasPairs gs c.args.fragments.now) same
    (pairs_here c.as_slice-group-items.result.now c.loop-group.group-index c.group-item.result c.loop-group-test.true c.group-item.is c.args.fragments.now
    (subst (λ (x : KeptGroup). (g : FragmentFact) → Contains c.args.fragments.now g → HasMember x.members (name_of g)) this (c.has_all.ensures yes)))
