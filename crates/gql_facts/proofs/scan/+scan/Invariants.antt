use Rattle.std.proofs.Common.{◌≡◌, take}
use Rattle.gql_facts.specs.OwnReads.{set_scan}
use Rattle.gql_facts.specs.Scans.{Scans}
use Rattle.gql_facts.proofs.scan.+scan.Given as goal

abbrev pub invariant-scan_set-loop-selection : goal.invariant-scan_set-loop-selection
invariant-scan_set-loop-selection g l =
    let F = g.W.World.facts l.initial.world in
    record {
      same_facts : g.W.World.facts l.world ≡ F;
      same_names : g.W.World.names l.world ≡ g.W.World.names l.initial.world;
      same_lent : g.W.World.lent l.world ≡ g.W.World.lent l.initial.world;
      scanned : Scans F (set_scan F l.parent (take l.selection-index l.set)) l.initial.keys.keys (g.W.World.asked l.initial.world) l.keys.keys (g.W.World.asked l.world);
    }
