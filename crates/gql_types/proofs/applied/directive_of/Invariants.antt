use Rattle.std.proofs.Common.{◌≡◌, drop}
use Rattle.gql_types.specs.Applied.{directive_of}
use Rattle.gql_types.proofs.applied.directive_of.Given as goal

abbrev pub invariant-loop-directive : goal.invariant-loop-directive
invariant-loop-directive l = directive_of l.name l.directives ≡ directive_of l.name (drop l.directive-index l.directives)
