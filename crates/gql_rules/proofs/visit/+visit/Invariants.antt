use Rattle.std.proofs.Common.{◌≡◌, ◌++◌, take}
use Rattle.gql_rules.specs.LocalFaults.{set_visit}
use Rattle.gql_rules.proofs.visit.+visit.Given as goal

abbrev pub invariant-visit_set-loop-selection : goal.invariant-visit_set-loop-selection
invariant-visit_set-loop-selection g l =
    let F = g.W.World.facts l.initial.world in
    record {
      same_facts : g.W.World.facts l.world ≡ F;
      same_names : g.W.World.names l.world ≡ g.W.World.names l.initial.world;
      same_lent : g.W.World.lent l.world ≡ g.W.World.lent l.initial.world;
      found : l.faults.items ≡ l.initial.faults.items ++ set_visit F l.owner l.parent (take l.selection-index l.set);
    }
