use Rattle.std.proofs.Common.{◌≡◌, ◌<◌, ◌+◌, ◌*◌, ◌^◌, length, take, ℕ}
use Rattle.std.specs.Int.Digits.{AllBelowBase}
use Rattle.gql_numbers.specs.Decimals.{value}
use Rattle.gql_numbers.proofs.digits.times.Given as goal

abbrev pub invariant-loop-i : goal.invariant-loop-i
invariant-loop-i l = record {
  count : l.i-end ≡ length l.digits;
  long : length l.product.items ≡ l.i;
  below : AllBelowBase 10 l.product.items;
  same : value l.product.items + 10 ^ l.i * l.carry ≡ value (take l.i l.digits) * l.factor;
  carry : l.carry < l.factor;
}
