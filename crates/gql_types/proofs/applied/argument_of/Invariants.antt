use Rattle.std.proofs.Common.{◌≡◌, drop, find, bytes_eq}
use Rattle.gql_types.proofs.applied.argument_of.Given as goal

abbrev pub invariant-loop-argument : goal.invariant-loop-argument
invariant-loop-argument l = find (λ a. bytes_eq l.name a.name.text) l.directive.arguments
    ≡ find (λ a. bytes_eq l.name a.name.text) (drop l.argument-index l.argument-items)
