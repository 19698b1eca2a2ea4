-- Members of a list, by its first.
use Rattle.std.proofs.Common.{◌≡◌, ◌⊎◌, inl, inr, zero, suc, refl, sym, length, List, [], ◌∷◌, Contains, arith}

module _ {A : Type 0} where
  pub none : (x : A) → Contains [] x → ⊥
  none x h = omega (arith, h.1)

  pub here : (x : A) (xs : List A) → Contains (x ∷ xs) x
  here x xs = (0, omega arith, refl)

  pub there : (x y : A) (xs : List A) → Contains xs x → Contains (y ∷ xs) x
  there x y xs h = (suc h.0, omega (arith, h.1), h.2)

  pub cases : (x y : A) (xs : List A) → Contains (y ∷ xs) x → (x ≡ y) ⊎ Contains xs x
  cases x y xs (zero, lt, e) = inl (sym e)
  cases x y xs (suc k, lt, e) = inr (k, omega arith, e)

  pub no_more : (xs : List A) → length xs ≡ 0 → xs ≡ []
  no_more [] e = refl
  no_more (x ∷ xs) e = absurd (omega (arith, e))
