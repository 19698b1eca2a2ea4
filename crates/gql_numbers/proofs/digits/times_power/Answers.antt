use Rattle.std.proofs.Common.{◌≡◌, ◌+◌, ◌*◌, ◌^◌, ap, sym, ◌∙◌, subst, suc, ℕ, add-one}
use Rattle.std.proofs.Math.Nat.{pow-suc, mul_assoc}
use Rattle.gql_numbers.specs.Decimals.{AreDigitsOf, value}
use Rattle.gql_numbers.proofs.digits.times_power.Goals as goal

step : (v f k w : ℕ) → w ≡ v * f ^ k → w * f ≡ v * f ^ (k + 1)
step v f k w e = ap (λ n. n * f) e ∙ mul_assoc v (f ^ k) f ∙ ap (λ n. v * n) (sym (ap (λ n. f ^ n) (add-one k) ∙ pow-suc f k))

pub loop-preserved : goal.loop-preserved
loop-preserved c = subst (λ n. AreDigitsOf n c.in_ok-product.product.items)
    (ap (λ xs. value xs * c.args.factor) c.as_slice.ensures.value
    ∙ step (value c.args.digits.items) c.args.factor c.loop.counter (value c.loop.product.items) c.loop.invariant.number) c.in_ok-product.ensures
