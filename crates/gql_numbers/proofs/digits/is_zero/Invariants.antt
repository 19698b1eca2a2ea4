use Rattle.std.proofs.Common.{◌≡◌, length, take}
use Rattle.gql_numbers.specs.Decimals.{value}
use Rattle.gql_numbers.proofs.digits.is_zero.Given as goal

abbrev pub invariant-loop-i : goal.invariant-loop-i
invariant-loop-i l = record {
  count : l.i-end ≡ length l.digits;
  zero : value (take l.i l.digits) ≡ 0;
}
