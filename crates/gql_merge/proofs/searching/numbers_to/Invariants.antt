use Rattle.std.proofs.Common.{◌≡◌}
use Rattle.gql_merge.specs.Numbers.{numbers_to}
use Rattle.gql_merge.proofs.searching.numbers_to.Given as goal

abbrev pub invariant-loop-number : goal.invariant-loop-number
invariant-loop-number l = l.numbers.items ≡ numbers_to l.number
