use Rattle.std.proofs.Common.{◌≡◌, ◌++◌, replicate}
use Rattle.gql_numbers.proofs.writing.write_zeros.Given as goal

abbrev pub invariant-loop : goal.invariant-loop
invariant-loop l = l.out.items ≡ l.initial.out.items ++ replicate l.counter 48
