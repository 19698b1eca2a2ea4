-- A power that is taken in steps.
use Rattle.std.proofs.Common.{◌≡◌, ◌+◌, ◌*◌, ◌^◌, ℕ, zero, suc, sym, ap, ◌∙◌, pow-suc, mul_assoc, mul-suc, mul-zero}
use Rattle.std.proofs.Math.Nat.{pow-zero}
use Rattle.std.proofs.lemmas.Nat.{pow-add}

-- a power of a power
twice : (f k q : ℕ) → (f ^ k) ^ q ≡ f ^ (k * q)
twice f k zero = pow-zero (f ^ k) ∙ sym (ap (λ n. f ^ n) (mul-zero k) ∙ pow-zero f)
twice f k (suc q) = pow-suc (f ^ k) q ∙ ap (λ n. n * f ^ k) (twice f k q) ∙ sym (pow-add f (k * q) k) ∙ ap (λ n. f ^ n) (sym (mul-suc k q))

-- a number times q steps of k and r more
pub in_steps : (v f k F q r n d : ℕ) → F ≡ f ^ k → n ≡ k * q + r → d ≡ v * F ^ q → d * f ^ r ≡ v * f ^ n
in_steps v f k F q r n d step all is = ap (λ x. x * f ^ r) (is ∙ ap (λ x. v * x ^ q) step) ∙ mul_assoc v ((f ^ k) ^ q) (f ^ r)
    ∙ ap (λ x. v * x) (ap (λ x. x * f ^ r) (twice f k q) ∙ sym (pow-add f (k * q) r) ∙ ap (λ x. f ^ x) (sym all))
