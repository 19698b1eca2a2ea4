use Rattle.std.proofs.Common.{◌≡◌, ◌-◌, length}
use Rattle.gql_reads.specs.Reaching.{AreMet, IsReaching}
use Rattle.gql_reads.specs.Tables.{AllHold, Keeps}
use Rattle.gql_reads.proofs.reading.reads_of.Given as goal

abbrev pub invariant-walk : goal.invariant-walk
invariant-walk g l =
    let F = g.W.World.facts l.fn.world in
    record {
      same_facts : g.W.World.facts l.world ≡ F;
      same_names : g.W.World.names l.world ≡ g.W.World.names l.fn.world;
      same_lent : g.W.World.lent l.world ≡ g.W.World.lent l.fn.world;
      holds : AllHold F l.table;
      keeps : Keeps l.fn.table l.table;
      met : AreMet F l.table l.met.names.keys l.met.parts.items;
      walked : IsReaching F l.fn.definition l.own.record l.at l.met.parts.items;
    }

abbrev pub decreases-walk : goal.decreases-walk
decreases-walk g l = length (g.W.World.names l.fn.world) - l.at
