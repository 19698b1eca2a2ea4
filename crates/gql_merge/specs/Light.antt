-- Helper definitions for private contracts: sets that are seen to be clean without a search, and
-- names that are added to those of clean fragments.
use Rattle.std.specs.Prelude.{◌≡◌, ◌⊎◌, ◌+◌, ℕ, List, [], ◌∷◌, map, length, Bool, true, Option, Some, Contains}
use Rattle.std.proofs.Common.{get_or}
use Rattle.gql_clashes.specs.Reach.{IsSpreadBy}
use Rattle.gql_clashes.specs.declared.sets.Sets.{Sets}
use Rattle.gql_facts.specs.Worlds.{Facts}
use Rattle.gql_merge.specs.Clean.{IsClean}
use Rattle.gql_merge.specs.FieldNodes.{SetNode, no_fields, selection_set}
use Rattle.gql_merge.specs.declared.flat.FlatSet.{FlatSet}

-- the names that a set spreads
abbrev pub spread_names : FlatSet → List (List ℕ)
spread_names s = map (λ n. n.now) s.names.items

-- there is at most one name, and it is among the others
abbrev pub IsOneOf : List (List ℕ) → List (List ℕ) → Type 0
IsOneOf names [] = Unit {0}
IsOneOf names (n ∷ []) = Contains names n
IsOneOf names (n ∷ (k ∷ more)) = ⊥

-- the set has no fields, and spreads no fragment or one that is clean
abbrev pub IsLight : List (List ℕ) → FlatSet → Type 0
IsLight names s = (s.fields.items ≡ []) × IsOneOf names (spread_names s)

-- all names that the set spreads are among these
abbrev pub IsSettled : List (List ℕ) → FlatSet → Type 0
IsSettled names s = (n : List ℕ) → Contains (spread_names s) n → Contains names n

-- all names that were there are kept, and those that satisfy P may be added
pub record MayAdd (P : List ℕ → Type 0) (old new : List (List ℕ)) : Type 0 where
  pub kept : (n : List ℕ) → Contains old n → Contains new n
  pub from : (n : List ℕ) → Contains new n → Contains old n ⊎ P n

-- the last of these sets is clean
abbrev pub IsLastClean : Facts → List SetNode → Type 0
IsLastClean facts sets = (n : ℕ) → n + 1 ≡ length sets
    → IsClean facts (get_or sets n (selection_set no_fields []) ∷ [])

-- these are all sets, or all but the last, which is clean
abbrev pub IsFirstOf : Facts → List SetNode → ℕ → Type 0
IsFirstOf facts sets n =
    (n ≡ length sets) ⊎ ((n + 1 ≡ length sets) × IsLastClean facts sets)

-- the number of the fragment of this name is among these
abbrev pub IsNameAt : (List ℕ → Option ℕ) → List ℕ → List ℕ → Type 0
IsNameAt number reached n = (i : ℕ) × (number n ≡ Some i) × Contains reached i

-- one of these bodies spreads this one, in any number of steps, and that is wanted
abbrev pub IsWanted : Bool → Sets → List ℕ → ℕ → Type 0
IsWanted wanted z bodies i = (wanted ≡ true) × IsSpreadBy z bodies i

-- the number of the fragment of this name is wanted
abbrev pub IsNameSpread : Bool → Sets → List ℕ → (List ℕ → Option ℕ) → List ℕ → Type 0
IsNameSpread wanted z bodies number n = (i : ℕ) × (number n ≡ Some i) × IsWanted wanted z bodies i
