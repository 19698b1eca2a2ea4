use Rattle.std.proofs.Common.{◌≡◌, take}
use Rattle.gql_cut.proofs.copies.directive_copies.Given as goal

abbrev pub invariant-loop-directive : goal.invariant-loop-directive
invariant-loop-directive l = l.copies.items ≡ take l.directive-index l.directives
