use Rattle.std.proofs.Common.{◌≡◌, find, drop, bytes_eq, codes}
use Rattle.gql_collect.proofs.conditions.if_argument.Given as goal

abbrev pub invariant-loop-argument : goal.invariant-loop-argument
invariant-loop-argument l = find (λ a. bytes_eq a.name.text (codes "if")) l.arguments
    ≡ find (λ a. bytes_eq a.name.text (codes "if")) (drop l.argument-index l.arguments)
