-- Helper definitions for private contracts: the names of fragments that selection sets spread.
use Rattle.std.specs.Prelude.{◌≡◌, ℕ, List, [], ◌∷◌, ◌++◌, map, flat_map, Option}
use Rattle.std.proofs.Common.{Bor}
use Rattle.gql_facts.specs.Worlds.{Facts}
use Rattle.gql_merge.specs.FieldNodes.{SetNode, names_spread}
use Rattle.gql_merge.specs.FieldSets.{Part}
use Rattle.gql_merge.specs.MergedNodes.{sets_of}
use Rattle.gql_merge.specs.declared.spread_names.SetNames.{SetNames}

-- the part of some selections, in each world, file and parent type
abbrev pub AnyPart : Type 0
AnyPart = Facts → List ℕ → Option (List ℕ) → Part

-- the names, as a list of texts
abbrev pub names_of : SetNames → List (List ℕ)
names_of s = map (λ n. n.now) s.names.items

-- a list of these names, if there are any
abbrev pub if_any : List (List ℕ) → List (List (List ℕ))
if_any [] = []
if_any (n ∷ ns) = (n ∷ ns) ∷ []

-- the names that a set spreads, if there are any
abbrev pub spread_by : SetNode → List (List (List ℕ))
spread_by s = if_any (names_spread s)

-- the names that the sets of a part spread
abbrev pub names_in : Part → List (List (List ℕ))
names_in p = flat_map spread_by (sets_of p)

-- the names of a part are added
abbrev pub AddsNames : AnyPart → List (Bor (List ℕ)) → List (Bor (List ℕ)) → Type 0
AddsNames part old new = (facts : Facts) (file : List ℕ) (parent : Option (List ℕ))
    → map (λ n. n.now) new ≡ map (λ n. n.now) old ++ (part facts file parent).names

-- the names of the sets within a part are added
abbrev pub AddsSets : AnyPart → List SetNames → List SetNames → Type 0
AddsSets part old new = (facts : Facts) (file : List ℕ) (parent : Option (List ℕ))
    → map names_of new ≡ map names_of old ++ flat_map spread_by (part facts file parent).sets
