use Rattle.std.proofs.Common.{◌≡◌, ◌++◌, flat_map, take}
use Rattle.gql_rules.specs.LocalFaults.{directive_faults}
use Rattle.gql_rules.proofs.directives.check.Given as goal

abbrev pub invariant-loop-directive : goal.invariant-loop-directive
invariant-loop-directive g l =
    let F = g.W.World.facts l.initial.world in
    record {
      same_facts : g.W.World.facts l.world ≡ F;
      same_names : g.W.World.names l.world ≡ g.W.World.names l.initial.world;
      same_lent : g.W.World.lent l.world ≡ g.W.World.lent l.initial.world;
      found : l.faults.items ≡ l.initial.faults.items ++ flat_map (directive_faults F l.owner l.location l.all) (take l.directive-index l.all);
    }
