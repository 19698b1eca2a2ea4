use Rattle.std.proofs.Common.{◌≡◌, ◌-◌, length}
use Rattle.gql_single_root.specs.Walks.{IsWalked}
use Rattle.gql_single_root.proofs.walk.root_fields.Given as goal

abbrev pub invariant-fragments : goal.invariant-fragments
invariant-fragments g l =
    let F = g.W.World.facts l.fn.world in
    record {
      same_facts : g.W.World.facts l.world ≡ F;
      same_names : g.W.World.names l.world ≡ g.W.World.names l.fn.world;
      same_lent : g.W.World.lent l.world ≡ g.W.World.lent l.fn.world;
      walked : IsWalked F l.root l.file l.set l.members l.at l.walk;
    }

abbrev pub decreases-fragments : goal.decreases-fragments
decreases-fragments g l = length l.members - l.at
