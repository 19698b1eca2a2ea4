use Rattle.std.proofs.Common.{◌≡◌, drop}
use Rattle.gql_single_root.specs.V30SingleRootField.{says_true}
use Rattle.gql_single_root.proofs.conditions.says_true.Given as goal

abbrev pub invariant-loop-argument : goal.invariant-loop-argument
invariant-loop-argument l = says_true l.arguments ≡ says_true (drop l.argument-index l.arguments)
