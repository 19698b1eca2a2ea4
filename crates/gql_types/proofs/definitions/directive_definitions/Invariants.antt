use Rattle.std.proofs.Common.{◌≡◌, take}
use Rattle.gql_types.specs.Definitions as spec
use Rattle.gql_types.proofs.definitions.directive_definitions.Given as goal

abbrev pub invariant-loop-definition : goal.invariant-loop-definition
invariant-loop-definition l = l.found.items ≡ spec.directive_definitions (take l.definition-index l.definitions)
