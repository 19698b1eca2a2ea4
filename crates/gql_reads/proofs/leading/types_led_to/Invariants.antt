use Rattle.std.proofs.Common.{◌≡◌, ◌-◌, length}
use Rattle.gql_reads.specs.Closings.{IsLeading}
use Rattle.gql_reads.specs.Leading.{AreTypes}
use Rattle.gql_reads.proofs.Led.{nameable}
use Rattle.gql_reads.proofs.leading.types_led_to.Given as goal

abbrev pub invariant-walk : goal.invariant-walk
invariant-walk g l =
    let F = g.W.World.facts l.fn.world in
    record {
      same_facts : g.W.World.facts l.world ≡ F;
      same_names : g.W.World.names l.world ≡ g.W.World.names l.fn.world;
      same_lent : g.W.World.lent l.world ≡ g.W.World.lent l.fn.world;
      known : AreTypes F l.known.entries;
      walked : IsLeading F l.fact l.at l.names.keys l.types.items;
    }

abbrev pub decreases-walk : goal.decreases-walk
decreases-walk g l = length (nameable (g.W.World.facts l.fn.world) l.fact (g.W.World.names l.fn.world)) - l.at
