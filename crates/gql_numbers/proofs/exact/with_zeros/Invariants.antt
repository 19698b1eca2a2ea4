use Rattle.std.proofs.Common.{◌≡◌, replicate}
use Rattle.gql_numbers.proofs.exact.with_zeros.Given as goal

abbrev pub invariant-loop : goal.invariant-loop
invariant-loop l = l.more.items ≡ replicate l.counter 0
