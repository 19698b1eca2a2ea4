use Rattle.std.proofs.Common.{◌≡◌, drop}
use Rattle.gql_single_root.specs.V30SingleRootField.{stays}
use Rattle.gql_single_root.proofs.conditions.stays.Given as goal

abbrev pub invariant-loop-directive : goal.invariant-loop-directive
invariant-loop-directive l = stays l.directives ≡ stays (drop l.directive-index l.directives)
