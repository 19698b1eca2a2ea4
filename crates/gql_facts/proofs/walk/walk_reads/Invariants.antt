use Rattle.std.proofs.Common.{◌≡◌, ◌-◌, length}
use Rattle.gql_facts.specs.Walks.{IsWalked, all_keys}
use Rattle.gql_facts.proofs.walk.walk_reads.Given as goal

abbrev pub invariant-walk : goal.invariant-walk
invariant-walk g l =
    let F = g.W.World.facts l.fn.world in
    record {
      same_facts : g.W.World.facts l.world ≡ F;
      same_names : g.W.World.names l.world ≡ g.W.World.names l.fn.world;
      same_lent : g.W.World.lent l.world ≡ g.W.World.lent l.fn.world;
      walked : IsWalked F l.fn.definition (g.W.World.asked l.fn.world) l.at l.keys.keys l.members.items (g.W.World.asked l.world);
    }

abbrev pub decreases-walk : goal.decreases-walk
decreases-walk g l = length (all_keys (g.W.World.facts l.fn.world) (g.W.World.names l.fn.world) l.fn.definition) - l.at
