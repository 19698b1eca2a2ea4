use Rattle.std.proofs.Common.{◌≡◌, ◌++◌, take}
use Rattle.gql_vars.specs.Misuses.{directive_misuses}
use Rattle.gql_vars.proofs.usages.check_directives.Given as goal

abbrev pub invariant-loop-directive : goal.invariant-loop-directive
invariant-loop-directive g l =
    let F = g.W.World.facts l.initial.world in
    record {
      same_facts : g.W.World.facts l.world ≡ F;
      same_names : g.W.World.names l.world ≡ g.W.World.names l.initial.world;
      same_lent : g.W.World.lent l.world ≡ g.W.World.lent l.initial.world;
      found : l.faults.items ≡ l.initial.faults.items ++ directive_misuses F l.check (take l.directive-index l.all);
    }
