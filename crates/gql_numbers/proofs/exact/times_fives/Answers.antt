use Rattle.std.proofs.Common.{◌≡◌, ◌/◌, ◌%◌, arith, refl, subst, IfOk}
use Rattle.gql_numbers.specs.Decimals.{AreDigitsOf, value}
use Rattle.gql_numbers.proofs.Powers.{in_steps}
use Rattle.gql_numbers.proofs.exact.times_fives.Goals as goal

pub returns : goal.returns
returns c = subst (λ n. IfOk c.times_power-2.result (λ digits. AreDigitsOf n digits.items))
    (in_steps (value c.args.digits.items) 5 17 762939453125 (c.args.power / 17) (c.args.power % 17) c.args.power (value c.in_ok-product.product.items)
    refl (omega arith) c.in_ok-product.ensures.number) c.times_power-2.ensures
