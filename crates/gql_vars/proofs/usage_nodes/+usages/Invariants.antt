use Rattle.std.proofs.Common.{◌≡◌, ◌++◌, take}
use Rattle.gql_vars.specs.Misuses.{set_misuses}
use Rattle.gql_vars.proofs.usage_nodes.+usages.Given as goal

abbrev pub invariant-check_set-loop-selection : goal.invariant-check_set-loop-selection
invariant-check_set-loop-selection g l =
    let F = g.W.World.facts l.initial.world in
    record {
      same_facts : g.W.World.facts l.world ≡ F;
      same_names : g.W.World.names l.world ≡ g.W.World.names l.initial.world;
      same_lent : g.W.World.lent l.world ≡ g.W.World.lent l.initial.world;
      found : l.faults.items ≡ l.initial.faults.items ++ set_misuses F l.check l.parent (take l.selection-index l.set);
    }
