use Rattle.std.proofs.Common.{◌≡◌, take}
use Rattle.gql_reads.specs.Observations.{Hold, observed_in}
use Rattle.gql_pairs.proofs.holds.answers_still_hold.Given as goal

abbrev pub invariant-loop-answer : goal.invariant-loop-answer
invariant-loop-answer g l = record {
  same_facts : g.W.World.facts l.world ≡ g.W.World.facts l.fn.world;
  same_names : g.W.World.names l.world ≡ g.W.World.names l.fn.world;
  same_lent : g.W.World.lent l.world ≡ g.W.World.lent l.fn.world;
  so_far : Hold (g.W.World.facts l.fn.world) (observed_in (take l.answer-index l.answers));
}
