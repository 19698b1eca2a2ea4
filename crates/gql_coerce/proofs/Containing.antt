-- Members of lists, by cases on the list.
use Rattle.std.proofs.Common.{◌≡◌, zero, suc, ◌⊎◌, inl, inr, List, [], ◌∷◌, map, flat_map, Contains, sym, subst, refl, arith}
use Rattle.std.proofs.lemmas.List.Elements.{Contains-append_left, Contains-append_right}

pub Contains-nil : {A : Type 0} (x : A) → Contains [] x → ⊥
Contains-nil x h = omega (arith, h.1)

pub Contains-here : {A : Type 0} (x : A) (xs : List A) → Contains (x ∷ xs) x
Contains-here x xs = (0, omega arith, refl)

pub Contains-there : {A : Type 0} (x y : A) (xs : List A) → Contains xs x → Contains (y ∷ xs) x
Contains-there x y xs h = (suc h.0, omega (arith, h.1), h.2)

pub Contains-cases : {A : Type 0} (x y : A) (xs : List A) → Contains (y ∷ xs) x → (x ≡ y) ⊎ Contains xs x
Contains-cases x y xs (zero, lt, e) = inl (sym e)
Contains-cases x y xs (suc k, lt, e) = inr (k, omega arith, e)

pub Contains-map : {A B : Type 0} (f : A → B) (xs : List A) (x : A) → Contains xs x → Contains (map f xs) (f x)
Contains-map f [] x h = absurd (Contains-nil x h)
Contains-map f (y ∷ ys) x h = elim (Contains-cases x y ys h) [
  | inl e ↦ subst (λ z. Contains (f y ∷ map f ys) (f z)) (sym e) (Contains-here (f y) (map f ys))
  | inr t ↦ Contains-there (f x) (f y) (map f ys) (Contains-map f ys x t)
]

pub Contains-map_from : {A B : Type 0} (f : A → B) (xs : List A) (y : B) → Contains (map f xs) y → (x : A) × Contains xs x × (f x ≡ y)
Contains-map_from f [] y h = absurd (Contains-nil y h)
Contains-map_from f (x ∷ xs) y h = elim (Contains-cases y (f x) (map f xs) h) [
  | inl e ↦ (x, Contains-here x xs, sym e)
  | inr t ↦ let r = Contains-map_from f xs y t in (r.0, Contains-there r.0 x xs r.1, r.2)
]

pub Contains-flat_map : {A B : Type 0} (f : A → List B) (xs : List A) (x : A) (y : B) → Contains xs x → Contains (f x) y → Contains (flat_map f xs) y
Contains-flat_map f [] x y h c = absurd (Contains-nil x h)
Contains-flat_map f (z ∷ zs) x y h c = elim (Contains-cases x z zs h) [
  | inl e ↦ Contains-append_left (f z) (flat_map f zs) y (subst (λ w. Contains (f w) y) e c)
  | inr t ↦ Contains-append_right (f z) (flat_map f zs) y (Contains-flat_map f zs x y t c)
]
