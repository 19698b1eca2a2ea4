use Rattle.std.proofs.Common.{◌≡◌}
use Rattle.gql_verdict.specs.SharedWorks.{Holds}
use Rattle.embed_validator.proofs.add_all.Given as goal

abbrev pub invariant-loop-definition : goal.invariant-loop-definition
invariant-loop-definition g l = record {
  same_facts : g.W.World.facts l.world ≡ g.W.World.facts l.fn.world;
  holds : Holds (g.W.World.facts l.fn.world) l.shared;
}
