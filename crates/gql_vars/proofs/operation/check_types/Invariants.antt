use Rattle.std.proofs.Common.{◌≡◌, ◌++◌, flat_map, take}
use Rattle.gql_vars.specs.Lists.{type_faults}
use Rattle.gql_vars.proofs.operation.check_types.Given as goal

abbrev pub invariant-loop-variable : goal.invariant-loop-variable
invariant-loop-variable g l =
    let F = g.W.World.facts l.initial.world in
    record {
      same_facts : g.W.World.facts l.world ≡ F;
      same_names : g.W.World.names l.world ≡ g.W.World.names l.initial.world;
      same_lent : g.W.World.lent l.world ≡ g.W.World.lent l.initial.world;
      found : l.faults.items ≡ l.initial.faults.items ++ flat_map (type_faults F l.owner) (take l.variable-index l.variables);
    }
