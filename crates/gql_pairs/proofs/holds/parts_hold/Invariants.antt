use Rattle.std.proofs.Common.{◌≡◌, take}
use Rattle.gql_reads.specs.Observations.{Hold}
use Rattle.gql_reads.specs.Readings.{seen_in}
use Rattle.gql_pairs.proofs.holds.parts_hold.Given as goal

abbrev pub invariant-loop-part : goal.invariant-loop-part
invariant-loop-part g l =
    let F = g.W.World.facts l.fn.world in
    record {
      same_facts : g.W.World.facts l.world ≡ F;
      same_names : g.W.World.names l.world ≡ g.W.World.names l.fn.world;
      same_lent : g.W.World.lent l.world ≡ g.W.World.lent l.fn.world;
      so_far : Hold F (seen_in (take l.part-index l.parts));
    }
