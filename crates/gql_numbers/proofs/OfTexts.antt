-- The digits of a double, and its text.
use Rattle.std.proofs.Common.{◌≡◌, ◌<◌, ◌≤◌, ℕ, zero, suc, ◌+◌, ◌*◌, ◌-◌, ◌/◌, ◌^◌, List, [], ◌∷◌, ◌++◌, length, replicate, Bool, true, false, true≢false, ◌||◌, refl, ap, sym, ◌∙◌, arith, subst, nat_eq, add-one, codes, ◌⊎◌, inl, inr}
use Rattle.std.proofs.Math.Nat.{mul-div_cancel}
use Rattle.std.proofs.lemmas.Bool.{eq-eqb, eqb-true}
use Rattle.std.proofs.lemmas.Nat.{mul-pow, pow-add, pow_pos}
use Rattle.std.specs.Float.{Float}
use Rattle.std.specs.Float.Ieee.{nan, inf, fin, up, down}
use Rattle.std.specs.Float.Ieee.Fits.{up_pos, down_pos}
use Rattle.std.specs.Fmt.{sign_text}
use Rattle.gql_numbers.specs.Decimals.{AreDigitsOf, IsScaled, value}
use Rattle.gql_numbers.specs.Doubles.{double_text, exact, fewest, first_read, reads_as, text_with}
use Rattle.gql_numbers.proofs.OfRounding.{compared}
use Rattle.gql_numbers.proofs.Values.{ten}

-- ---- zeros below digits

zero_below : (p v n : ℕ) → v * 10 ^ n ≡ p → 0 + 10 * p ≡ v * 10 ^ suc n
zero_below p v n e = omega arith ∙ ap (λ q. 10 * q) (sym e) ∙ by v (10 ^ n) ∙ ap (λ q. v * q) (sym (ten n)) where
  by : (v q : ℕ) → 10 * (v * q) ≡ v * (10 * q)
  by v q = grind arith

pub zeros_digits : (ds : List ℕ) (n : ℕ) → AreDigitsOf (value ds) ds → AreDigitsOf (value ds * 10 ^ n) (replicate n 0 ++ ds)
zeros_digits ds zero are = subst (λ N. AreDigitsOf N ds) (omega arith) are
zeros_digits ds (suc n) are =
    let more = zeros_digits ds n are in
    let is : 0 + 10 * value (replicate n 0 ++ ds) ≡ value ds * 10 ^ suc n = zero_below (value (replicate n 0 ++ ds)) (value ds) n (sym more.number) in
    record {
      below = (omega arith, more.below);
      number = is;
      highest = by (10 ^ suc (length (replicate n 0 ++ ds))) (10 ^ length (replicate n 0 ++ ds)) (value (replicate n 0 ++ ds)) (value ds * 10 ^ n) (value ds * 10 ^ suc n)
          (ten (length (replicate n 0 ++ ds))) more.highest more.number is;
    } where
      by : (a b v w z : ℕ) → a ≡ 10 * b → b ≤ 10 * w → v ≡ w → 0 + 10 * v ≡ z → a ≤ 10 * z
      by a b v w z e less same is = omega (arith, e, less, same, is)

-- ---- powers

fives : (a s t : ℕ) → a * 5 ^ t * 10 ^ s ≡ a * 2 ^ s * 5 ^ (t + s)
fives a s t = ap (λ p. a * 5 ^ t * p) (mul-pow 2 5 s) ∙ by (5 ^ t) (2 ^ s) (5 ^ s) ∙ ap (λ p. a * 2 ^ s * p) (sym (pow-add 5 t s)) where
  by : (x y z : ℕ) → a * x * (y * z) ≡ a * y * (x * z)
  by x y z = grind arith

twos : (a s t : ℕ) → a * 2 ^ s * 10 ^ t ≡ a * 2 ^ (s + t) * 5 ^ t
twos a s t = ap (λ p. a * 2 ^ s * p) (mul-pow 2 5 t) ∙ by (2 ^ s) (2 ^ t) (5 ^ t) ∙ ap (λ p. a * p * 5 ^ t) (sym (pow-add 2 s t)) where
  by : (x y z : ℕ) → a * x * (y * z) ≡ a * (x * y) * z
  by x y z = grind arith

pub small_shift : (n a s v w : ℕ) → s ≤ n → v ≡ a → w ≡ v * 5 ^ (n - s) → w * 10 ^ s ≡ a * 2 ^ s * 5 ^ n
small_shift n a s v w low is power = ap (λ x. x * 10 ^ s) (power ∙ ap (λ x. x * 5 ^ (n - s)) is) ∙ fives a s (n - s)
    ∙ ap (λ k. a * 2 ^ s * 5 ^ k) (omega (arith, low))

pub large_shift : (n a s v w : ℕ) → n ≤ s → v ≡ a → w ≡ v * 2 ^ (s - n) → w * 10 ^ n ≡ a * 2 ^ s * 5 ^ n
large_shift n a s v w high is power = ap (λ x. x * 10 ^ n) (power ∙ ap (λ x. x * 2 ^ (s - n)) is) ∙ twos a (s - n) n
    ∙ ap (λ k. a * 2 ^ k * 5 ^ n) (omega (arith, high))

-- ---- the text of a double

product_some : (a b : ℕ) → 0 < a → 0 < b → a * b ≡ 0 → ⊥
product_some zero b h k e = omega (arith, h)
product_some (suc a) zero h k e = omega (arith, k)
product_some (suc a) (suc b) h k e = omega (arith, by a b, e) where
  by : (a b : ℕ) → suc a * suc b ≡ suc (a * suc b + b)
  by a b = grind arith

some_product : (a b : ℕ) → 0 < a → 0 < b → 0 < a * b
some_product zero b h k = absurd (omega (arith, h))
some_product (suc a) zero h k = absurd (omega (arith, k))
some_product (suc a) (suc b) h k = subst (λ n. 0 < n) (by a b) (omega arith) where
  by : (a b : ℕ) → suc (a * suc b + b) ≡ suc a * suc b
  by a b = grind arith

pub zero_text : (x : Float) (s : Bool) (u : ℕ) → IsScaled x s u → u ≡ 0 → double_text x ≡ sign_text s ++ codes "0.0"
zero_text nan s u h none = absurd h
zero_text (inf t) s u h none = absurd h
zero_text (fin t zero e) s u h none = ap (λ b. sign_text b ++ codes "0.0") h.0
zero_text (fin t (suc m) e) s u h none = absurd (product_some (suc m * up e) (2 ^ 1074) (some_product (suc m) (up e) (omega arith) (up_pos e)) (omega arith)
    (h.1 ∙ ap (λ n. n * down e) none ∙ omega arith))

exact_is : (m u e2 f2 : ℕ) (d : ℕ) → 0 < d → m * e2 ≡ u * d → m * (e2 * f2) / d ≡ u * f2
exact_is m u e2 f2 d some e = ap (λ n. n / d) (by m e2 f2 ∙ ap (λ n. n * f2) e ∙ by2 u d f2) ∙ mul-div_cancel (u * f2) some where
  by : (m a b : ℕ) → m * (a * b) ≡ m * a * b
  by m a b = grind arith

  by2 : (u d b : ℕ) → u * d * b ≡ u * b * d
  by2 u d b = grind arith

pub some_text : (x : Float) (s : Bool) (u : ℕ) → IsScaled x s u → 0 < u → double_text x ≡ fewest x s (u * 5 ^ 1074)
some_text nan s u h some = absurd h
some_text (inf t) s u h some = absurd h
some_text (fin t zero e) s u h some = absurd (product_some u (down e) some (down_pos e) (sym h.1 ∙ omega arith))
some_text (fin t (suc m) e) s u h some = ap (fewest (fin t (suc m) e) t) (exact_is (suc m * up e) u (2 ^ 1074) (5 ^ 1074) (down e) (down_pos e) h.1)
    ∙ ap (λ b. fewest (fin t (suc m) e) b (u * 5 ^ 1074)) h.0

-- ---- the search

pub next_read : (x : Float) (s : Bool) (N n : ℕ) → n < 17 → (b : Bool) → b ≡ false
    → first_read (17 - n) b x s N n ≡ first_read (17 - (n + 1)) (reads_as x (text_with s N (n + 1))) x s N (n + 1)
next_read x s N n less b none = ap (λ k. first_read k b x s N n) is ∙ ap (λ t. first_read (suc (16 - n)) t x s N n) none
    ∙ ap (λ k. first_read (16 - n) (reads_as x (text_with s N k)) x s N k) (sym (add-one n))
    ∙ ap (λ k. first_read k (reads_as x (text_with s N (n + 1))) x s N (n + 1)) is2 where
      is : 17 - n ≡ suc (16 - n)
      is = omega (arith, less)

      is2 : 16 - n ≡ 17 - (n + 1)
      is2 = omega arith

read_now : (k : ℕ) (x : Float) (s : Bool) (N n : ℕ) → first_read k true x s N n ≡ text_with s N n
read_now zero x s N n = refl
read_now (suc k) x s N n = refl

pub enough_read : (x : Float) (s : Bool) (N n : ℕ) (b : Bool) → (nat_eq n 17 || b) ≡ true → first_read (17 - n) b x s N n ≡ text_with s N n
enough_read x s N n true h = read_now (17 - n) x s N n
enough_read x s N n false h = by (nat_eq n 17) refl h where
  by : (t : Bool) → nat_eq n 17 ≡ t → (t || false) ≡ true → first_read (17 - n) false x s N n ≡ text_with s N n
  by true e h = ap (λ k. first_read (17 - k) false x s N n) (eqb-true n 17 e)
  by false e h = absurd (true≢false (sym h))

pub no_more : (n : ℕ) (b : Bool) → (nat_eq n 17 || b) ≡ false → b ≡ false
no_more n false h = refl
no_more n true h = by (nat_eq n 17) h where
  by : (t : Bool) → (t || true) ≡ false → true ≡ false
  by true h = h
  by false h = h

pub not_last : (n : ℕ) (b : Bool) → (nat_eq n 17 || b) ≡ false → n ≤ 17 → n < 17
not_last n b h most = by (compared n 17) where
  by : (n < 17) ⊎ (17 ≤ n) → n < 17
  by (inl less) = less
  by (inr above) = absurd (true≢false (ap (λ t. t || b) (sym (eq-eqb n 17 (omega (arith, most, above)))) ∙ h))

pub some_units : (a s : ℕ) → 0 < a → 0 < a * 2 ^ s
some_units a s h = some_product a (2 ^ s) h (pow_pos s)
