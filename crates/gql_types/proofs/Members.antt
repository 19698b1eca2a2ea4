-- The members of lists, of lists that a function makes, and of those that pass a test.
use Rattle.std.proofs.Common.{◌≡◌, ◌⊎◌, inl, inr, zero, suc, refl, sym, subst, List, [], ◌∷◌, Bool, true, false, map, filter, Contains, arith}
use Rattle.std.specs.List.{AllByRecursion}

module _ {A : Type 0} where
  pub none : (x : A) → Contains [] x → ⊥
  none x h = omega (arith, h.1)

  pub here : (x : A) (xs : List A) → Contains (x ∷ xs) x
  here x xs = (0, omega arith, refl)

  pub there : (x y : A) (xs : List A) → Contains xs x → Contains (y ∷ xs) x
  there x y xs h = (suc h.0, omega (arith, h.1), h.2)

  pub cases : (x y : A) (xs : List A) → Contains (y ∷ xs) x → (x ≡ y) ⊎ Contains xs x
  cases x y xs (zero, lt, e) = inl (sym e)
  cases x y xs (suc k, lt, e) = inr (k, omega arith, e)

  pub every : (P : A → Type 0) (xs : List A) → AllByRecursion P xs → (x : A) → Contains xs x → P x
  every P [] all x h = absurd (none x h)
  every P (y ∷ ys) all x h = elim (cases x y ys h) [ inl e ↦ subst P (sym e) all.0 | inr t ↦ every P ys all.1 x t ]

  pub Contains-from_filter : (p : A → Bool) (xs : List A) (x : A) → Contains (filter p xs) x → Contains xs x × (p x ≡ true)
  Contains-from_filter p [] x h = absurd (none x h)
  Contains-from_filter p (y ∷ ys) x h = by (p y) refl h (Contains-from_filter p ys x)
    where
      by : (b : Bool) → p y ≡ b → Contains (filter p (y ∷ ys)) x → (Contains (filter p ys) x → Contains ys x × (p x ≡ true)) → Contains (y ∷ ys) x × (p x ≡ true)
      by true is h rest =
          let g : Contains (y ∷ filter p ys) x = rw is at h in
          elim (cases x y (filter p ys) g) [
            | inl e ↦ (subst (λ z. Contains (y ∷ ys) z) (sym e) (here y ys), subst (λ z. p z ≡ true) (sym e) is)
            | inr t ↦ let r = rest t in (there x y ys r.0, r.1)
          ]
      by false is h rest =
          let g : Contains (filter p ys) x = rw is at h in
          let r = rest g in (there x y ys r.0, r.1)

module _ {A B : Type 0} (f : A → B) where
  pub Contains-to_map : (xs : List A) (x : A) → Contains xs x → Contains (map f xs) (f x)
  Contains-to_map [] x h = absurd (none x h)
  Contains-to_map (y ∷ ys) x h = elim (cases x y ys h) [
    | inl e ↦ subst (λ z. Contains (f y ∷ map f ys) (f z)) (sym e) (here (f y) (map f ys))
    | inr t ↦ there (f x) (f y) (map f ys) (Contains-to_map ys x t)
  ]

  pub Contains-from_map : (xs : List A) (q : B) → Contains (map f xs) q → (x : A) × Contains xs x × (q ≡ f x)
  Contains-from_map [] q h = absurd (none q h)
  Contains-from_map (y ∷ ys) q h = elim (cases q (f y) (map f ys) h) [
    | inl e ↦ (y, here y ys, e)
    | inr t ↦ let r = Contains-from_map ys q t in (r.0, there r.0 y ys r.1, r.2)
  ]
