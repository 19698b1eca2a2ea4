use Rattle.std.proofs.Common.{◌≡◌, ◌⊎◌, ◌≤◌, ◌+◌, ◌*◌, ◌^◌, length, ℕ}
use Rattle.std.specs.Int.Digits.{AllBelowBase}
use Rattle.gql_numbers.specs.Decimals.{value}
use Rattle.gql_numbers.proofs.digits.add_digits.Given as goal

abbrev pub invariant-loop-rest : goal.invariant-loop-rest
invariant-loop-rest l = record {
  below : AllBelowBase 10 l.digits.items;
  same : value l.digits.items + 10 ^ length l.digits.items * l.rest
      ≡ value l.initial.digits.items + 10 ^ length l.initial.digits.items * l.number;
  bound : 10 ^ length l.digits.items * l.rest ≤ 10 ^ length l.initial.digits.items * l.number;
  high : ((l.rest ≡ l.number) × (l.digits.items ≡ l.initial.digits.items))
      ⊎ (10 ^ length l.digits.items ≤ 10 * (10 ^ length l.initial.digits.items * l.number));
}

abbrev pub decreases-loop-rest : goal.decreases-loop-rest
decreases-loop-rest l = l.rest
