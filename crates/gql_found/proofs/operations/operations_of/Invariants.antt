use Rattle.std.proofs.Common.{◌≡◌, flat_map, map, take}
use Rattle.gql_found.specs.Findings.{operation_in}
use Rattle.gql_found.proofs.operations.operations_of.Given as goal

abbrev pub invariant-loop-definition : goal.invariant-loop-definition
invariant-loop-definition l = l.operations.items ≡ flat_map (operation_in l.sources) (map (λ d. d.now) (take l.definition-index l.definitions))
