use Rattle.std.proofs.Common.{◌≡◌, take}
use Rattle.gql_pairs.specs.Sweeps.{AreGroupsKept}
use Rattle.gql_pairs.proofs.table.PairTable.swept.Given as goal

abbrev pub invariant-loop-group : goal.invariant-loop-group
invariant-loop-group g l =
    let F = g.W.World.facts l.fn.world in
    record {
      same_facts : g.W.World.facts l.world ≡ F;
      same_names : g.W.World.names l.world ≡ g.W.World.names l.fn.world;
      same_lent : g.W.World.lent l.world ≡ g.W.World.lent l.fn.world;
      groups : AreGroupsKept F (take l.group-index l.group-items) l.groups.items;
    }
