-- The text that is written is read back, where one with as many digits or more is.
use Rattle.std.proofs.Common.{◌≡◌, ◌≤◌, ℕ, zero, suc, ◌+◌, ◌-◌, Bool, true, false, true≢false, refl, ap, sym, ◌∙◌, arith, subst}
use Rattle.std.specs.Float.{Float}
use Rattle.gql_numbers.specs.Doubles.{first_read, reads_as, text_with}
use Rattle.gql_numbers.specs.Laws.{FewestAreRead}

module _ (x : Float) (s : Bool) (N : ℕ) where
  -- the texts with n digits are read as x
  abbrev IsRead : ℕ → Type 0
  IsRead n = reads_as x (text_with s N n) ≡ true

  -- the first that is read, from i digits on, if the one with i + j digits is
  abbrev Found : ℕ → Bool → ℕ → ℕ → Type 0
  Found k b i j = (m : ℕ) × (i ≤ m) × (m ≤ i + j) × (first_read k b x s N i ≡ text_with s N m) × IsRead m

  here : (k i j : ℕ) → IsRead i → Found k true i j
  here zero i j h = (i, omega arith, omega arith, refl, h)
  here (suc k) i j h = (i, omega arith, omega arith, refl, h)

  not_here : (i : ℕ) → reads_as x (text_with s N i) ≡ false → IsRead (i + 0) → ⊥
  not_here i e h = true≢false (sym (subst IsRead (omega arith) h) ∙ e)

  found : (k i j : ℕ) (b : Bool) → reads_as x (text_with s N i) ≡ b → j ≤ k → IsRead (i + j) → Found k b i j
  found k i j true e few h = here k i j e
  found k i zero false e few h = absurd (not_here i e h)
  found zero i (suc j) false e few h = absurd (omega (arith, few))
  found (suc k) i (suc j) false e few h =
      let later : Found k (reads_as x (text_with s N (suc i))) (suc i) j =
      found k (suc i) j (reads_as x (text_with s N (suc i))) refl (omega (arith, few)) (subst IsRead (omega arith) h) in
      (later.0, omega (arith, later.1), omega (arith, later.2), later.3, later.4)

pub fewest_are_read : FewestAreRead
fewest_are_read x s N n low high h =
    let at : Found x s N 16 (reads_as x (text_with s N 1)) 1 (n - 1) =
    found x s N 16 1 (n - 1) (reads_as x (text_with s N 1)) refl (omega (arith, high)) (subst (IsRead x s N) (omega (arith, low)) h) in
    (at.0, at.1, omega (arith, at.2, low), at.3, at.4)
