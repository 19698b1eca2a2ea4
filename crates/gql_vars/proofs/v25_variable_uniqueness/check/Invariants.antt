use Rattle.std.proofs.Common.{◌≡◌, ◌++◌, flat_map, take}
use Rattle.gql_vars.specs.V25VariableUniqueness.{fault_of_variable}
use Rattle.gql_vars.proofs.v25_variable_uniqueness.check.Given as goal

abbrev pub invariant-loop-variable : goal.invariant-loop-variable
invariant-loop-variable l = l.faults.items
    ≡ l.initial.faults.items ++ flat_map (fault_of_variable l.owner l.variables) (take l.variable-index l.variables)
