-- Helper definitions for private contracts: lists of names in runs.
use Rattle.std.specs.Prelude.{◌≡◌, ℕ, ◌+◌, List, [], ◌∷◌, flat_map, length, refl}
use Rattle.gql_intro.specs.declared.runs.Run.{Run}

-- the names of runs, in their order
abbrev pub names_of : List Run → List (List ℕ)
names_of runs = flat_map (λ (r : Run). r.names) runs

-- each run tells how many names there are up to its end, where so many are before the first run
abbrev pub AreCounted : ℕ → List Run → Type 0
AreCounted before [] = Unit
AreCounted before (r ∷ runs) = (r.end ≡ before + length r.names) × AreCounted r.end runs

-- two runs, of two names and of one
example : (a b c : List ℕ) → names_of (record { names = a ∷ b ∷ []; end = 2 }
    ∷ record { names = c ∷ []; end = 3 } ∷ []) ≡ a ∷ b ∷ c ∷ []
example a b c = refl

-- the first ends behind two names, the second behind three
example_counts : (a b c : List ℕ) → AreCounted 0 (record { names = a ∷ b ∷ []; end = 2 }
    ∷ record { names = c ∷ []; end = 3 } ∷ [])
example_counts a b c = (refl, (refl, tt))
