use Rattle.std.proofs.Common.{◌≡◌, Contains, take}
use Rattle.gql_reads.specs.Reaching.{AreMet, Meets}
use Rattle.gql_reads.specs.Tables.{AllHold, Keeps}
use Rattle.gql_reads.proofs.reading.meet_all.Given as goal

abbrev pub invariant-loop-fragment : goal.invariant-loop-fragment
invariant-loop-fragment g l =
    let F = g.W.World.facts l.initial.world in
    record {
      same_facts : g.W.World.facts l.world ≡ F;
      same_names : g.W.World.names l.world ≡ g.W.World.names l.initial.world;
      same_lent : g.W.World.lent l.world ≡ g.W.World.lent l.initial.world;
      holds : AllHold F l.table;
      keeps : Keeps l.initial.table l.table;
      met : AreMet F l.table l.met.names.keys l.met.parts.items;
      meets : Meets (Contains (take l.fragment-index l.fragments)) l.initial.met.parts.items l.met.parts.items;
    }
