use Rattle.std.proofs.Common.{◌≡◌, take}
use Rattle.indexmap.specs.IndexMap.{keys}
use Rattle.gql_facts.specs.OwnReads.{set_scan}
use Rattle.gql_facts.specs.Scans.{add_keys}
use Rattle.gql_reads.specs.Closings.{AreRight}
use Rattle.gql_reads.proofs.scan.+scan.Given as goal

abbrev pub invariant-scan_set-loop-selection : goal.invariant-scan_set-loop-selection
invariant-scan_set-loop-selection g l =
    let F = g.W.World.facts l.initial.world in
    record {
      same_facts : g.W.World.facts l.world ≡ F;
      same_names : g.W.World.names l.world ≡ g.W.World.names l.initial.world;
      same_lent : g.W.World.lent l.world ≡ g.W.World.lent l.initial.world;
      right : AreRight F l.answers.entries;
      asked : keys l.answers ≡ add_keys (keys l.initial.answers) (set_scan F l.parent (take l.selection-index l.set));
    }
