-- The parts of a double.
use Rattle.std.proofs.Common.{◌≡◌, ◌<◌, ◌≤◌, ℕ, zero, suc, ◌+◌, ◌*◌, ◌-◌, ◌/◌, ◌%◌, ◌^◌, Bool, true, false, cond, T, not, refl, ap, sym, ◌∙◌, subst, arith, true≢false, eqb, leb}
use Rattle.std.specs.Float.{Float, binary64, float_is_finite}
use Rattle.std.specs.Float.Ieee.{nan, inf, fin, is_nan, odd, of_fields, of_bits, hid, low, ones, top, prec}
use Rattle.std.specs.Float.Ieee.Exact.{HasValue, odd_sign}
use Rattle.gql_numbers.specs.Decimals.{IsScaled}

pub not_nan : (x : Float) → float_is_finite x ≡ true → T (not (is_nan x))
unfolding float_is_finite is_nan
not_nan nan h = absurd (true≢false (sym h))
not_nan (inf s) h = tt
not_nan (fin s m e) h = tt

scaled : (x : Float) (s : Bool) (u : ℕ) → HasValue x s u (2 ^ 1074) → IsScaled x s u
scaled nan s u h = h
scaled (inf t) s u h = h
scaled (fin t m e) s u h = h

not_finite : (b s : Bool) → float_is_finite (cond b (inf s) nan) ≡ true → ⊥
unfolding float_is_finite
not_finite true s h = true≢false (sym h)
not_finite false s h = true≢false (sym h)

pub small_field : (s : Bool) (t : ℕ) → IsScaled (of_fields binary64 s zero t) s (t * 2 ^ 0)
unfolding of_fields
small_field s t = scaled (odd 53 s t 0 1074) s (t * 2 ^ 0) (odd_sign 53 s t 0 1074)

pub other_field : (s : Bool) (x t : ℕ) → float_is_finite (of_fields binary64 s (suc x) t) ≡ true → IsScaled (of_fields binary64 s (suc x) t) s ((hid binary64 + t) * 2 ^ x)
unfolding of_fields
other_field s x t = by (eqb (suc x) (ones binary64)) where
  by : (b : Bool) → float_is_finite (cond b (cond (eqb t 0) (inf s) nan) (odd 53 s (hid binary64 + t) x 1074)) ≡ true
      → IsScaled (cond b (cond (eqb t 0) (inf s) nan) (odd 53 s (hid binary64 + t) x 1074)) s ((hid binary64 + t) * 2 ^ x)
  by true h = absurd (not_finite (eqb t 0) s h)
  by false h = scaled (odd 53 s (hid binary64 + t) x 1074) s ((hid binary64 + t) * 2 ^ x) (odd_sign 53 s (hid binary64 + t) x 1074)

pub zero_parts : (x : Float) (b : ℕ) → of_bits binary64 b ≡ x → b % 9223372036854775808 / 4503599627370496 ≡ 0
    → IsScaled x (leb 9223372036854775808 b) (b % 4503599627370496 * 2 ^ 0)
unfolding of_bits
zero_parts x b same none = subst (λ y. IsScaled y (leb 9223372036854775808 b) (b % 4503599627370496 * 2 ^ 0)) same
    (subst (λ k. IsScaled (of_fields binary64 (leb 9223372036854775808 b) k (b % 4503599627370496)) (leb 9223372036854775808 b) (b % 4503599627370496 * 2 ^ 0))
    (sym none) (small_field (leb 9223372036854775808 b) (b % 4503599627370496)))

by_fields : (x : Float) (s : Bool) (k t : ℕ) → float_is_finite x ≡ true → of_fields binary64 s k t ≡ x → 0 < k
    → IsScaled x s ((4503599627370496 + t) * 2 ^ (k - 1))
by_fields x s zero t finite same some = absurd (omega (arith, some))
by_fields x s (suc k) t finite same some = subst (λ y. IsScaled y s ((4503599627370496 + t) * 2 ^ (suc k - 1))) same
    (subst (λ n. IsScaled (of_fields binary64 s (suc k) t) s ((4503599627370496 + t) * 2 ^ n)) is
    (other_field s k t (subst (λ y. float_is_finite y ≡ true) (sym same) finite))) where
      is : k ≡ suc k - 1
      is = omega arith

pub other_parts : (x : Float) (b : ℕ) → float_is_finite x ≡ true → of_bits binary64 b ≡ x → 0 < b % 9223372036854775808 / 4503599627370496
    → IsScaled x (leb 9223372036854775808 b) ((4503599627370496 + b % 4503599627370496) * 2 ^ (b % 9223372036854775808 / 4503599627370496 - 1))
unfolding of_bits
other_parts x b finite same some = by_fields x (leb 9223372036854775808 b) (b % 9223372036854775808 / 4503599627370496) (b % 4503599627370496) finite same some
