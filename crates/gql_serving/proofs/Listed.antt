-- Where members of lists that are made come from.
use Rattle.std.proofs.Common.{◌≡◌, List, [], ◌∷◌, Bool, true, false, map, filter, if◌then◌else◌, Contains, sym, subst, inl, inr}
use Rattle.gql_facts.specs.ListMembers.{Contains-nil, Contains-here, Contains-there, Contains-cases}

pub Contains-map_from : {A B : Type 0} (f : A → B) (xs : List A) (y : B) → Contains (map f xs) y
    → (x : A) × Contains xs x × (f x ≡ y)
Contains-map_from f [] y h = absurd (Contains-nil y h)
Contains-map_from f (x ∷ xs) y h = elim (Contains-cases y (f x) (map f xs) h) [
  | inl e ↦ (x, Contains-here x xs, sym e)
  | inr t ↦ let r = Contains-map_from f xs y t in (r.0, Contains-there r.0 x xs r.1, r.2)
]

pub Contains-filter_from : {A : Type 0} (p : A → Bool) (xs : List A) (x : A) → Contains (filter p xs) x → Contains xs x
Contains-filter_from p [] x h = h
Contains-filter_from p (y ∷ ys) x h = by (p y) (Contains-filter_from p ys x) h where
  by : (b : Bool) → (Contains (filter p ys) x → Contains ys x) → Contains (if b then y ∷ filter p ys else filter p ys) x → Contains (y ∷ ys) x
  by true rest h = elim (Contains-cases x y (filter p ys) h) [
    | inl e ↦ subst (λ z. Contains (y ∷ ys) z) (sym e) (Contains-here y ys)
    | inr i ↦ Contains-there x y ys (rest i)
  ]
  by false rest h = Contains-there x y ys (rest h)
