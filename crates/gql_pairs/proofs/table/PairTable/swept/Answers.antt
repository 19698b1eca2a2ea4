use Rattle.std.proofs.Common.{◌≡◌, ◌∙◌, List, Contains, rules, subst, sym}
use Rattle.gql_facts.specs.Worlds.{Facts}
use Rattle.gql_pairs.specs.Doubts.{MembersHoldUndoubted}
use Rattle.gql_pairs.specs.Groups.{KeptGroup}
use Rattle.gql_pairs.specs.Sweeps.{KeepsGroup}
use Rattle.gql_pairs.proofs.Entries.{groups_more}
use Rattle.gql_pairs.proofs.table.PairTable.swept.Goals as goal

pub keep_group-requires : goal.keep_group-requires
keep_group-requires g c =
    let same : c.as_slice-group-items.result.now ≡ c.args.self.now = search rules in
    subst (λ (G : Facts). MembersHoldUndoubted G c.args.doubt.now c.group-item.result.members) (sym c.loop-group.invariant.same_facts)
    (c.requires c.group-item.result (subst (λ (l : List KeptGroup). Contains l c.group-item.result) same (c.loop-group.group-index, c.loop-group-test.true, sym c.group-item.is)))

pub loop-group-preserved : goal.loop-group-preserved
loop-group-preserved g c =
    let F = g.W.World.facts c.args.world.now in
    let same = c.loop-group.invariant.same_facts in
    record {
      same_facts = c.keep_group.ensures.facts ∙ same;
      same_names = c.keep_group.ensures.names ∙ c.loop-group.invariant.same_names;
      same_lent = c.keep_group.ensures.lent ∙ c.loop-group.invariant.same_lent;
      groups = groups_more F c.as_slice-group-items.result.now c.loop-group.group-index c.group-item.result c.loop-group-test.true c.group-item.is c.loop-group.groups.items c.keep_group.new.groups.items
          c.loop-group.invariant.groups (subst (λ (G : Facts). KeepsGroup G c.group-item.result c.loop-group.groups.items c.keep_group.new.groups.items) same c.in_ok-keep_group.ensures.kept);
    }
