-- Members of lists that are made from others.
use Rattle.std.specs.Prelude.{◌≡◌, List, [], ◌∷◌, map, Contains}
use Rattle.std.proofs.Common.{sym, inl, inr}
use Rattle.gql_facts.specs.ListMembers.{Contains-nil, Contains-here, Contains-there, Contains-cases}

-- where a made value comes from
pub Contains-map_from : {A B : Type 0} (f : A → B) (xs : List A) (y : B) → Contains (map f xs) y
    → (x : A) × Contains xs x × (f x ≡ y)
Contains-map_from f [] y h = absurd (Contains-nil y h)
Contains-map_from f (x ∷ xs) y h = elim (Contains-cases y (f x) (map f xs) h) [
  | inl e ↦ (x, Contains-here x xs, sym e)
  | inr t ↦ let r = Contains-map_from f xs y t in (r.0, Contains-there r.0 x xs r.1, r.2)
]
