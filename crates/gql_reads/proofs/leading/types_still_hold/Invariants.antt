use Rattle.std.proofs.Common.{◌≡◌, take}
use Rattle.gql_reads.specs.Leading.{AreTypes}
use Rattle.gql_reads.specs.Observations.{Hold, about_all}
use Rattle.gql_reads.proofs.leading.types_still_hold.Given as goal

abbrev pub invariant-loop-of_type : goal.invariant-loop-of_type
invariant-loop-of_type g l = record {
  same_facts : g.W.World.facts l.world ≡ g.W.World.facts l.fn.world;
  same_names : g.W.World.names l.world ≡ g.W.World.names l.fn.world;
  same_lent : g.W.World.lent l.world ≡ g.W.World.lent l.fn.world;
  known : AreTypes (g.W.World.facts l.fn.world) l.known.entries;
  so_far : Hold (g.W.World.facts l.fn.world) (about_all (take l.of_type-index l.types));
}
