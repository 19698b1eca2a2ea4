use Rattle.std.proofs.Common.{◌≡◌, flat_map, take}
use Rattle.indexmap.specs.IndexMap.{keys}
use Rattle.gql_facts.specs.OwnReads.{variable_reads}
use Rattle.gql_facts.specs.Scans.{add_keys}
use Rattle.gql_reads.specs.Closings.{AreRight}
use Rattle.gql_reads.proofs.scan.note_variables.Given as goal

abbrev pub invariant-loop-variable : goal.invariant-loop-variable
invariant-loop-variable g l =
    let F = g.W.World.facts l.initial.world in
    record {
      same_facts : g.W.World.facts l.world ≡ F;
      same_names : g.W.World.names l.world ≡ g.W.World.names l.initial.world;
      same_lent : g.W.World.lent l.world ≡ g.W.World.lent l.initial.world;
      right : AreRight F l.answers.entries;
      asked : keys l.answers ≡ add_keys (keys l.initial.answers) (flat_map variable_reads (take l.variable-index l.variables));
    }
