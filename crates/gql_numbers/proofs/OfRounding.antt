-- The first digits of a number, rounded.
use Rattle.std.proofs.Common.{◌≡◌, ◌≢◌, ◌<◌, ◌≤◌, ℕ, zero, suc, ◌+◌, ◌*◌, ◌-◌, ◌/◌, ◌%◌, ◌^◌, List, [], ◌∷◌, ◌++◌, length, take, drop, get_or, Bool, true, false, true≢false, refl, ap, sym, ◌∙◌, arith, subst, if◌then◌else◌, nat_lt, nat_eq, add-one, ◌⊎◌, inl, inr}
use Rattle.std.proofs.lemmas.Bool.{ltb-true, lt-ltb, eqb-true, eq-eqb}
use Rattle.std.proofs.lemmas.List.{take-append-drop, length-take-le, take_all, length-drop}
use Rattle.std.proofs.lemmas.Nat.{div-mul-add, mod-mul-add}
use Rattle.std.proofs.Math.Nat.{mul-le-mul_right, mul_comm, pow-le-pow_right}
use Rattle.std.specs.Int.Digits.{AllBelowBase}
use Rattle.gql_numbers.specs.Decimals.{AreDigitsOf, value}
use Rattle.gql_numbers.specs.Doubles.{leading, nearest_whole, rounded_by, size, size_from}
use Rattle.gql_numbers.proofs.Values.{rest_is, ten, value_less, value_more}

-- ---- tests

pub not_less : (a b : ℕ) → b ≤ a → nat_lt a b ≡ false
not_less a b h = by (nat_lt a b) refl where
  by : (t : Bool) → nat_lt a b ≡ t → t ≡ false
  by true e = absurd (omega (arith, ltb-true a b e, h))
  by false e = refl

pub not_same : (a b : ℕ) → b < a → nat_eq a b ≡ false
not_same a b h = by (nat_eq a b) refl where
  by : (t : Bool) → nat_eq a b ≡ t → t ≡ false
  by true e = absurd (omega (arith, eqb-true a b e, h))
  by false e = refl

pub down : (q r b : ℕ) → r < b → rounded_by q r b ≡ q
down q r b h = ap (λ t. if t then q else (if nat_eq r b then q + q % 2 else q + 1)) (lt-ltb r b h)

pub up : (q r b : ℕ) → b < r → rounded_by q r b ≡ q + 1
up q r b h = ap (λ t. if t then q else (if nat_eq r b then q + q % 2 else q + 1)) (not_less r b (omega (arith, h)))
    ∙ ap (λ t. if t then q + q % 2 else q + 1) (not_same r b h)

pub middle : (q r b : ℕ) → r ≡ b → rounded_by q r b ≡ q + q % 2
middle q r b h = ap (λ t. if t then q else (if nat_eq r b then q + q % 2 else q + 1)) (not_less r b (omega (arith, h)))
    ∙ ap (λ t. if t then q + q % 2 else q + 1) (eq-eqb r b h)

pub compared : (a b : ℕ) → (a < b) ⊎ (b ≤ a)
compared a zero = inr (omega arith)
compared zero (suc b) = inl (omega arith)
compared (suc a) (suc b) = by (compared a b) where
  by : (a < b) ⊎ (b ≤ a) → (suc a < suc b) ⊎ (suc b ≤ suc a)
  by (inl h) = inl (omega (arith, h))
  by (inr h) = inr (omega (arith, h))

-- ---- what is cut off, by its highest digit

-- the highest digit and those below it
split : (ds : List ℕ) → 0 < length ds → value ds ≡ value (take (length ds - 1) ds) + 10 ^ (length ds - 1) * get_or ds (length ds - 1) 0
split ds some = ap value (sym (take_all (length ds - 1 + 1) ds (omega (arith, some)))) ∙ value_more ds (length ds - 1) (omega (arith, some))

tens : (ds : List ℕ) → 0 < length ds → 10 ^ length ds ≡ 10 * 10 ^ (length ds - 1)
tens ds some = ap (λ n. 10 ^ n) is ∙ ten (length ds - 1) where
  is : length ds ≡ suc (length ds - 1)
  is = omega (arith, some)

pub below_take : (ds : List ℕ) (k : ℕ) → AllBelowBase 10 ds → AllBelowBase 10 (take k ds)
below_take ds zero h = tt
below_take [] (suc k) h = tt
below_take (x ∷ ds) (suc k) h = (h.0, below_take ds k h.1)

pub below_drop : (ds : List ℕ) (k : ℕ) → AllBelowBase 10 ds → AllBelowBase 10 (drop k ds)
below_drop ds zero h = h
below_drop [] (suc k) h = tt
below_drop (x ∷ ds) (suc k) h = below_drop ds k h.1

lower_less : (ds : List ℕ) → AllBelowBase 10 ds → 0 < length ds → value (take (length ds - 1) ds) < 10 ^ (length ds - 1)
lower_less ds h some = subst (λ n. value (take (length ds - 1) ds) < 10 ^ n) (length-take-le (length ds - 1) ds (omega arith))
    (value_less (take (length ds - 1) ds) (below_take ds (length ds - 1) h))

module _ (ds : List ℕ) (q : ℕ) (below : AllBelowBase 10 ds) (some : 0 < length ds) where
  restated : (w : ℕ) → w ≡ rounded_by q (2 * (value (take (length ds - 1) ds) + 10 ^ (length ds - 1) * get_or ds (length ds - 1) 0)) (10 * 10 ^ (length ds - 1))
      → w ≡ rounded_by q (2 * value ds) (10 ^ length ds)
  restated w e = e ∙ ap (λ v. rounded_by q (2 * v) (10 * 10 ^ (length ds - 1))) (sym (split ds some)) ∙ ap (rounded_by q (2 * value ds)) (sym (tens ds some))

  -- the highest digit is not 5
  pub by_highest : get_or ds (length ds - 1) 0 ≢ 5 → q + (if nat_lt 5 (get_or ds (length ds - 1) 0) then 1 else 0) ≡ rounded_by q (2 * value ds) (10 ^ length ds)
  by_highest not_5 = restated (q + (if nat_lt 5 (get_or ds (length ds - 1) 0) then 1 else 0)) (by (nat_lt 5 (get_or ds (length ds - 1) 0)) refl) where
    by : (t : Bool) → nat_lt 5 (get_or ds (length ds - 1) 0) ≡ t → q + (if t then 1 else 0)
        ≡ rounded_by q (2 * (value (take (length ds - 1) ds) + 10 ^ (length ds - 1) * get_or ds (length ds - 1) 0)) (10 * 10 ^ (length ds - 1))
    by true e = sym (up q _ _ (over (value (take (length ds - 1) ds)) (10 ^ (length ds - 1)) (get_or ds (length ds - 1) 0) (ltb-true 5 _ e) (lower_less ds below some))) where
      over : (v p d : ℕ) → 5 < d → v < p → 10 * p < 2 * (v + p * d)
      over v p d more less = omega (arith, mul-le-mul_right p more, mul_comm p d, less)
    by false e = omega arith ∙ sym (down q _ _ (under (value (take (length ds - 1) ds)) (10 ^ (length ds - 1)) (get_or ds (length ds - 1) 0) (small e not_5) (lower_less ds below some))) where
      under : (v p d : ℕ) → d ≤ 4 → v < p → 2 * (v + p * d) < 10 * p
      under v p d few less = omega (arith, mul-le-mul_right p few, mul_comm p d, less)

      small : {d : ℕ} → nat_lt 5 d ≡ false → d ≢ 5 → d ≤ 4
      small {d} e differ = by_size (compared 5 d) where
        by_size : (5 < d) ⊎ (d ≤ 5) → d ≤ 4
        by_size (inl h) = absurd (true≢false (sym (lt-ltb 5 d h) ∙ e))
        by_size (inr h) = omega (arith, h, differ)

  -- it is 5, and the others are not all 0
  pub above_half : get_or ds (length ds - 1) 0 ≡ 5 → 0 < value (take (length ds - 1) ds) → q + 1 ≡ rounded_by q (2 * value ds) (10 ^ length ds)
  above_half is_5 more = restated (q + 1) (sym (up q _ _ (over (value (take (length ds - 1) ds)) (10 ^ (length ds - 1)) (get_or ds (length ds - 1) 0) is_5 more))) where
    over : (v p d : ℕ) → d ≡ 5 → 0 < v → 10 * p < 2 * (v + p * d)
    over v p d e some = subst (λ x. 10 * p < 2 * (v + p * x)) (sym e) (omega (arith, some))

  -- it is 5, and the others are all 0
  pub half : get_or ds (length ds - 1) 0 ≡ 5 → value (take (length ds - 1) ds) ≡ 0
      → q + (if nat_eq (q % 2) 1 then 1 else 0) ≡ rounded_by q (2 * value ds) (10 ^ length ds)
  half is_5 none = restated (q + (if nat_eq (q % 2) 1 then 1 else 0)) (parity (q % 2) (omega arith)
      ∙ sym (middle q _ _ (same (value (take (length ds - 1) ds)) (10 ^ (length ds - 1)) (get_or ds (length ds - 1) 0) is_5 none))) where
        same : (v p d : ℕ) → d ≡ 5 → v ≡ 0 → 2 * (v + p * d) ≡ 10 * p
        same v p d e none = ap (λ x. 2 * (v + p * x)) e ∙ omega (arith, none)

        parity : (r : ℕ) → r < 2 → q + (if nat_eq r 1 then 1 else 0) ≡ q + r
        parity zero h = refl
        parity (suc zero) h = refl
        parity (suc (suc r)) h = absurd (omega (arith, h))

-- ---- the size of a number

grows : (k : ℕ) → k < 10 ^ k
grows zero = omega arith
grows (suc k) = subst (λ p. suc k < p) (sym (ten k)) (omega (arith, grows k))

size_is_from : (k p N L : ℕ) (t : Bool) → nat_lt N (10 ^ p) ≡ t → p ≤ L → L ≤ p + k → N < 10 ^ L → 10 ^ L ≤ 10 * N → size_from k t p N ≡ L
size_is_from zero p N L t e low high less most = omega (arith, low, high)
size_is_from (suc k) p N L true e low high less most = by (compared p L) where
  by : (p < L) ⊎ (L ≤ p) → p ≡ L
  by (inl h) = absurd (no (10 ^ p) (10 ^ suc p) (10 ^ L) (ltb-true N (10 ^ p) e) most (pow-le-pow_right (omega arith) h) (ten p)) where
    no : (a b c : ℕ) → N < a → c ≤ 10 * N → b ≤ c → b ≡ 10 * a → ⊥
    no a b c small big above is = omega (arith, small, big, above, is)
  by (inr h) = omega (arith, low, h)
size_is_from (suc k) p N L false e low high less most = size_is_from k (suc p) N L (nat_lt N (10 ^ suc p)) refl (by (compared p L)) (omega (arith, high)) less most where
  by : (p < L) ⊎ (L ≤ p) → suc p ≤ L
  by (inl h) = h
  by (inr h) = absurd (true≢false (sym (lt-ltb N (10 ^ p) (subst (λ n. N < 10 ^ n) (omega (arith, low, h)) less)) ∙ e))

pub size_is : (N L : ℕ) → N < 10 ^ L → 10 ^ L ≤ 10 * N → size N ≡ L
size_is N zero less most = absurd (omega (arith, less, most))
size_is N (suc k) less most = size_is_from N 0 N (suc k) (nat_lt N 1) refl (omega arith)
    (omega (arith, grows k, ten k, most)) less most

-- ---- the first digits

pub value_split : (ds : List ℕ) (k : ℕ) → k ≤ length ds → value ds ≡ value (drop k ds) * 10 ^ k + value (take k ds)
value_split ds zero h = omega arith
value_split [] (suc k) h = absurd (omega (arith, h))
value_split (x ∷ ds) (suc k) h = ap (λ v. x + 10 * v) (value_split ds k (omega (arith, h)))
    ∙ by (value (drop k ds)) (10 ^ k) (value (take k ds)) ∙ ap (λ p. value (drop k ds) * p + (x + 10 * value (take k ds))) (sym (ten k)) where
      by : (w p v : ℕ) → x + 10 * (w * p + v) ≡ w * (10 * p) + (x + 10 * v)
      by w p v = grind arith

pub leading_is : (ds : List ℕ) (n cut : ℕ) → AllBelowBase 10 ds → 10 ^ length ds ≤ 10 * value ds → cut ≡ length ds - n
    → leading n (value ds) ≡ rounded_by (value (drop cut ds)) (2 * value (take cut ds)) (10 ^ length (take cut ds))
leading_is ds n cut below high is =
    ap (λ k. nearest_whole (value ds) (10 ^ (k - n))) (size_is (value ds) (length ds) (value_less ds below) high)
    ∙ ap (λ k. nearest_whole (value ds) (10 ^ k)) (sym is)
    ∙ ap (λ N. rounded_by (N / 10 ^ cut) (2 * (N % 10 ^ cut)) (10 ^ cut)) (value_split ds cut within)
    ∙ ap (λ q. rounded_by q (2 * ((value (drop cut ds) * 10 ^ cut + value (take cut ds)) % 10 ^ cut)) (10 ^ cut)) (div-mul-add (value (drop cut ds)) (10 ^ cut) (value (take cut ds)) small)
    ∙ ap (λ r. rounded_by (value (drop cut ds)) (2 * r) (10 ^ cut)) (mod-mul-add (value (drop cut ds)) (10 ^ cut) (value (take cut ds)) small)
    ∙ ap (λ k. rounded_by (value (drop cut ds)) (2 * value (take cut ds)) (10 ^ k)) (sym long) where
      within : cut ≤ length ds
      within = omega (arith, is)

      long : length (take cut ds) ≡ cut
      long = length-take-le cut ds within

      small : value (take cut ds) < 10 ^ cut
      small = subst (λ k. value (take cut ds) < 10 ^ k) long (value_less (take cut ds) (below_take ds cut below))

-- the first digits are a small number
pub first_small : (ds : List ℕ) (n cut : ℕ) → AllBelowBase 10 ds → n ≤ 17 → cut ≡ length ds - n → value (drop cut ds) + 1 < 18446744073709551616
first_small ds n cut below few is = by (value (drop cut ds)) (10 ^ length (drop cut ds)) (value_less (drop cut ds) (below_drop ds cut below)) (pow-le-pow_right (omega arith) short) where
  short : length (drop cut ds) ≤ 17
  short = omega (arith, length-drop cut ds, is, few)

  by : (v p : ℕ) → v < p → p ≤ 10 ^ 17 → v + 1 < 18446744073709551616
  by v p a b = omega (arith, a, b)

-- the same for the slice of the first digits
pub slice_small : (ds : List ℕ) (n cut : ℕ) → AllBelowBase 10 ds → n ≤ 17 → cut ≡ length ds - n → value (take (length ds - cut) (drop cut ds)) + 1 < 18446744073709551616
slice_small ds n cut below few is = subst (λ xs. value xs + 1 < 18446744073709551616) (sym (rest_is ds cut)) (first_small ds n cut below few is)

pub slice_leading : (ds : List ℕ) (n cut : ℕ) → AllBelowBase 10 ds → 10 ^ length ds ≤ 10 * value ds → cut ≡ length ds - n
    → rounded_by (value (take (length ds - cut) (drop cut ds))) (2 * value (take cut ds)) (10 ^ length (take cut ds)) ≡ leading n (value ds)
slice_leading ds n cut below high is = ap (λ xs. rounded_by (value xs) (2 * value (take cut ds)) (10 ^ length (take cut ds))) (rest_is ds cut)
    ∙ sym (leading_is ds n cut below high is)

-- a power of ten in 64 bits
pub ten_fits : (k : ℕ) → k < 17 → 10 ^ k * 10 < 18446744073709551616
ten_fits k h = by (10 ^ k) most where
  fewer : k ≤ 16
  fewer = omega (arith, h)

  most : 10 ^ k ≤ 10 ^ 16
  most = pow-le-pow_right (omega arith) fewer

  by : (p : ℕ) → p ≤ 10 ^ 16 → p * 10 < 18446744073709551616
  by p less = omega (arith, less)
