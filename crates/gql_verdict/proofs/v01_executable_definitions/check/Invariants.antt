use Rattle.std.proofs.Common.{◌≡◌, ◌++◌, flat_map, map, take}
use Rattle.gql_verdict.specs.V01ExecutableDefinitions.{fault_of_definition}
use Rattle.gql_verdict.proofs.v01_executable_definitions.check.Given as goal

abbrev pub invariant-loop-definition : goal.invariant-loop-definition
invariant-loop-definition l = l.faults.items ≡ l.initial.faults.items
    ++ flat_map fault_of_definition (map (λ d. d.now) (take l.definition-index l.definitions))
