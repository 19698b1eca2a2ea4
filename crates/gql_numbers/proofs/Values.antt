-- The numbers that digits write.
use Rattle.std.proofs.Common.{◌≡◌, ◌<◌, ◌≤◌, ℕ, zero, suc, ◌+◌, ◌*◌, ◌/◌, ◌%◌, ◌^◌, List, [], ◌∷◌, ◌++◌, length, take, refl, ap, sym, ◌∙◌, arith, subst, true, false, Bool, drop, ◌-◌, add-one, ◌&&◌, nat_eq, get_or, ◌⊎◌, inl, inr}
use Rattle.std.proofs.Math.Nat.{pow-succ', one-le-pow, mul-le-mul_right, pow-le-pow_right}
use Rattle.std.proofs.Math.Seq.{take-suc}
use Rattle.std.proofs.lemmas.List.{take_all, length-take-le, length-drop}
use Rattle.std.specs.Int.Digits.{AllBelowBase}
use Rattle.gql_numbers.specs.Decimals.{value}

pub ten : (k : ℕ) → 10 ^ suc k ≡ 10 * 10 ^ k
ten k = pow-succ' 10 k

-- one more digit in front
pub value_end : (ds : List ℕ) (d : ℕ) → value (ds ++ d ∷ []) ≡ value ds + 10 ^ length ds * d
value_end [] d = omega arith
value_end (x ∷ ds) d = ap (λ v. x + 10 * v) (value_end ds d) ∙ spread x (value ds) (10 ^ length ds) d
    ∙ ap (λ p. x + 10 * value ds + p * d) (sym (ten (length ds))) where
      spread : (x v p d : ℕ) → x + 10 * (v + p * d) ≡ (x + 10 * v) + 10 * p * d
      spread x v p d = grind arith

pub below_end : (ds : List ℕ) (d : ℕ) → AllBelowBase 10 ds → d < 10 → AllBelowBase 10 (ds ++ d ∷ [])
below_end [] d h less = (less, tt)
below_end (x ∷ ds) d h less = (h.0, below_end ds d h.1 less)

pub length_end : (ds : List ℕ) (d : ℕ) → length (ds ++ d ∷ []) ≡ suc (length ds)
length_end [] d = refl
length_end (x ∷ ds) d = ap suc (length_end ds d)

-- a number above digits, by its lowest digit and the others
pub carried : (p rest : ℕ) → p * (rest % 10) + 10 * p * (rest / 10) ≡ p * rest
carried p rest = by (rest % 10) (rest / 10) rest (omega arith) where
  by : (r q n : ℕ) → n ≡ r + 10 * q → p * r + 10 * p * q ≡ p * n
  by r q n e = subst (λ m. p * r + 10 * p * q ≡ p * m) (sym e) (grind arith)

-- the power above one more digit
power_end : (ds : List ℕ) (d : ℕ) → 10 ^ length (ds ++ d ∷ []) ≡ 10 * 10 ^ length ds
power_end ds d = ap (λ n. 10 ^ n) (length_end ds d) ∙ ten (length ds)

pub pushed : (ds : List ℕ) (rest : ℕ) → value (ds ++ rest % 10 ∷ []) + 10 ^ length (ds ++ rest % 10 ∷ []) * (rest / 10) ≡ value ds + 10 ^ length ds * rest
pushed ds rest = ap (λ p. value (ds ++ rest % 10 ∷ []) + p * (rest / 10)) (power_end ds (rest % 10))
    ∙ ap (λ v. v + 10 * 10 ^ length ds * (rest / 10)) (value_end ds (rest % 10))
    ∙ by (value ds) (10 ^ length ds * (rest % 10)) (10 * 10 ^ length ds * (rest / 10)) (10 ^ length ds * rest) (carried (10 ^ length ds) rest) where
      by : (v a b c : ℕ) → a + b ≡ c → (v + a) + b ≡ v + c
      by v a b c e = omega (arith, e)

-- what is left above the digits is no more than what was there
pub pushed_bound : (ds : List ℕ) (rest n : ℕ) → 10 ^ length ds * rest ≤ n → 10 ^ length (ds ++ rest % 10 ∷ []) * (rest / 10) ≤ n
pushed_bound ds rest n h = subst (λ p. p * (rest / 10) ≤ n) (sym (power_end ds (rest % 10)))
    (by (10 ^ length ds * (rest % 10)) (10 * 10 ^ length ds * (rest / 10)) (10 ^ length ds * rest) (carried (10 ^ length ds) rest) h) where
      by : (a b c : ℕ) → a + b ≡ c → c ≤ n → b ≤ n
      by a b c e less = omega (arith, e, less)

at_least : (p r : ℕ) → 0 < r → p ≤ p * r
at_least p zero h = absurd (omega (arith, h))
at_least p (suc r) h = subst (λ n. p ≤ n) (e p r) (omega arith) where
  e : (p r : ℕ) → p + p * r ≡ p * suc r
  e p r = grind arith

pub pushed_high : (ds : List ℕ) (rest n : ℕ) → 0 < rest → 10 ^ length ds * rest ≤ n → 10 ^ length (ds ++ rest % 10 ∷ []) ≤ 10 * n
pushed_high ds rest n some h = subst (λ p. p ≤ 10 * n) (sym (power_end ds (rest % 10)))
    (by (10 ^ length ds) (10 ^ length ds * rest) (at_least (10 ^ length ds) rest some) h) where
      by : (p c : ℕ) → p ≤ c → c ≤ n → 10 * p ≤ 10 * n
      by p c e less = omega (arith, e, less)

-- without a number there are no digits above
pub not_high : (p n : ℕ) (ds : List ℕ) {rest : ℕ} {old : List ℕ} → n ≡ 0 → ((rest ≡ n) × (ds ≡ old)) ⊎ (10 ^ length ds ≤ 10 * (p * n)) → ds ≡ old
not_high p n ds none (inl h) = h.1
not_high p n ds none (inr h) = absurd (no (10 ^ length ds) (one-le-pow (length ds) 10 (omega arith)) (subst (λ m. 10 ^ length ds ≤ 10 * (p * m)) none h)) where
  no : (q : ℕ) → 1 ≤ q → q ≤ 10 * (p * 0) → ⊥
  no q some h = omega (arith, some, h)

-- a power is not 0
pub power_some : (k n : ℕ) → 10 ^ k ≤ 10 * n → 0 < n
power_some k n h = omega (arith, h, one-le-pow k 10 (omega arith))

-- digits write a number below the power above them
pub value_less : (ds : List ℕ) → AllBelowBase 10 ds → value ds < 10 ^ length ds
value_less [] h = omega arith
value_less (x ∷ ds) h = subst (λ p. x + 10 * value ds < p) (sym (ten (length ds))) (by x (value ds) (10 ^ length ds) h.0 (value_less ds h.1)) where
  by : (x v p : ℕ) → x < 10 → v < p → x + 10 * v < 10 * p
  by x v p small less = omega (arith, small, less)

-- ---- digits by their places

pub digit_less : (ds : List ℕ) (i : ℕ) → AllBelowBase 10 ds → i < length ds → get_or ds i 0 < 10
digit_less [] i h less = absurd (omega (arith, less))
digit_less (x ∷ ds) zero h less = h.0
digit_less (x ∷ ds) (suc i) h less = digit_less ds i h.1 (omega (arith, less))

pub take_more : (ds : List ℕ) (i : ℕ) → i < length ds → take (i + 1) ds ≡ take i ds ++ get_or ds i 0 ∷ []
take_more ds i h = ap (λ n. take n ds) (add-one i) ∙ take-suc ds i 0 h

pub value_more : (ds : List ℕ) (i : ℕ) → i < length ds → value (take (i + 1) ds) ≡ value (take i ds) + 10 ^ i * get_or ds i 0
value_more ds i h = ap value (take_more ds i h) ∙ value_end (take i ds) (get_or ds i 0)
    ∙ ap (λ n. value (take i ds) + 10 ^ n * get_or ds i 0) (length-take-le i ds (omega (arith, h)))

-- a digit that is not 0
pub some_digit : (ds : List ℕ) (i : ℕ) → 0 < get_or ds i 0 → 0 < value ds
some_digit [] i h = absurd (omega (arith, h))
some_digit (x ∷ ds) zero h = omega (arith, h)
some_digit (x ∷ ds) (suc i) h = omega (arith, some_digit ds i h)

-- a few digits write a small number
pub few_fit : (ds : List ℕ) → AllBelowBase 10 ds → length ds ≤ 17 → value (drop 1 ds) * 10 + get_or ds 0 0 < 100000000000000000
few_fit [] h few = omega arith
few_fit (x ∷ ds) h few = by (value ds) (10 ^ length (x ∷ ds)) (value_less (x ∷ ds) h) (pow-le-pow_right (omega arith) few) where
  by : (v p : ℕ) → x + 10 * v < p → p ≤ 10 ^ 17 → v * 10 + x < 100000000000000000
  by v p less most = omega (arith, less, most)

-- the digits from a place on, as a slice has them
pub rest_is : (ds : List ℕ) (k : ℕ) → take (length ds - k) (drop k ds) ≡ drop k ds
rest_is ds k = take_all (length ds - k) (drop k ds) (omega (arith, length-drop k ds))

pub others_fit : (ds : List ℕ) → AllBelowBase 10 ds → length ds ≤ 17 → value (take (length ds - 1) (drop 1 ds)) * 10 + get_or ds 0 0 < 100000000000000000
others_fit ds h few = subst (λ xs. value xs * 10 + get_or ds 0 0 < 100000000000000000) (sym (rest_is ds 1)) (few_fit ds h few)

-- ---- a digit times a factor, and what is carried

pub carried_less : (d f carry : ℕ) → d < 10 → carry < f → (d * f + carry) / 10 < f
carried_less d f carry small less = by (d * f) (mul-le-mul_right f (omega (arith, small))) where
  by : (p : ℕ) → p ≤ 9 * f → (p + carry) / 10 < f
  by p most = omega (arith, most, less)

pub multiplied : (ps ds : List ℕ) (i f carry : ℕ) → length ps ≡ i → i < length ds → value ps + 10 ^ i * carry ≡ value (take i ds) * f
    → value (ps ++ (get_or ds i 0 * f + carry) % 10 ∷ []) + 10 ^ (i + 1) * ((get_or ds i 0 * f + carry) / 10) ≡ value (take (i + 1) ds) * f
multiplied ps ds i f carry long h same =
    let s = get_or ds i 0 * f + carry in
    ap (λ p. value (ps ++ s % 10 ∷ []) + p * (s / 10)) (ap (λ n. 10 ^ n) (add-one i ∙ sym (ap suc long) ∙ sym (length_end ps (s % 10))))
    ∙ pushed ps s ∙ ap (λ n. value ps + 10 ^ n * s) long
    ∙ by (value ps) (10 ^ i) (value (take i ds)) (get_or ds i 0) same
    ∙ ap (λ v. v * f) (sym (value_more ds i h)) where
      by : (v p t d : ℕ) → v + p * carry ≡ t * f → v + p * (d * f + carry) ≡ (t + p * d) * f
      by v p t d e = spread v p d ∙ ap (λ x. x + p * (d * f)) e ∙ grind arith where
        spread : (v p d : ℕ) → v + p * (d * f + carry) ≡ (v + p * carry) + p * (d * f)
        spread v p d = grind arith

pub whole : (ps ds : List ℕ) (i f carry : ℕ) → length ps ≡ i → length ds ≤ i → value ps + 10 ^ i * carry ≡ value (take i ds) * f
    → value ps + 10 ^ length ps * carry ≡ value ds * f
whole ps ds i f carry long end same = ap (λ n. value ps + 10 ^ n * carry) long ∙ same ∙ ap (λ xs. value xs * f) (take_all i ds end)

-- the highest digit of a product is not 0
pub product_high : (ps ds new : List ℕ) (f carry : ℕ) → length ps ≤ length ds → 0 < f → 10 ^ length ds ≤ 10 * value ds
    → value ps + 10 ^ length ps * carry ≡ value ds * f
    → (0 < carry → 10 ^ length new ≤ 10 * (10 ^ length ps * carry)) → (carry ≡ 0 → new ≡ ps) → 10 ^ length new ≤ 10 * (value ds * f)
product_high ps ds new f zero long some high same above none =
    subst (λ xs. 10 ^ length xs ≤ 10 * (value ds * f)) (sym (none refl))
    (by (10 ^ length ps) (10 ^ length ds) (value ds) (value ds * f) (pow-le-pow_right (omega arith) long) high (at_least (value ds) f some)) where
      by : (p q v w : ℕ) → p ≤ q → q ≤ 10 * v → v ≤ w → p ≤ 10 * w
      by p q v w a b c = omega (arith, a, b, c)
product_high ps ds new f (suc carry) long some high same above none =
    by (10 ^ length new) (10 ^ length ps * suc carry) (value ps) (value ds * f) (above (omega arith)) same where
      by : (n c v w : ℕ) → n ≤ 10 * c → v + c ≡ w → n ≤ 10 * w
      by n c v w a e = omega (arith, a, e)
