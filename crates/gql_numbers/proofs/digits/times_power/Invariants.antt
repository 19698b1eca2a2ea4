use Rattle.std.proofs.Common.{◌*◌, ◌^◌, ℕ}
use Rattle.gql_numbers.specs.Decimals.{AreDigitsOf, value}
use Rattle.gql_numbers.proofs.digits.times_power.Given as goal

abbrev pub invariant-loop : goal.invariant-loop
invariant-loop l = AreDigitsOf (value l.fn.digits.items * l.factor ^ l.counter) l.product.items
