-- Helper definitions for private contracts: the places of fragments among those that a definition
-- reaches, and the places that a set spreads.
use Rattle.std.specs.Prelude.{◌≡◌, ℕ, List, [], flat_map, Option, Some, None, Contains}
use Rattle.std.specs.List.{slice_get}
use Rattle.gql_clashes.specs.Reach.{IsSpreadBy}
use Rattle.gql_clashes.specs.declared.sets.Sets.{Sets}
use Rattle.gql_facts.specs.Members.{Lists}
use Rattle.gql_facts.specs.Worlds.{Facts}
use Rattle.gql_facts.specs.declared.fact.FragmentFact.{FragmentFact}
use Rattle.gql_merge.specs.Between.{name_of}
use Rattle.gql_merge.specs.FieldNodes.{names_spread}
use Rattle.gql_merge.specs.FieldSets.{list_of}
use Rattle.gql_merge.specs.MergedNodes.{fragment_set}
use Rattle.gql_merge.specs.declared.spreading.SpreadSet.{SpreadSet}

-- the place of the fragment of this name, or none if none of those seen has it
abbrev pub IsPlaceAt : List FragmentFact → List FragmentFact → List ℕ → Option ℕ → Type 0
IsPlaceAt members seen n None = (g : FragmentFact) → Contains seen g → name_of g ≡ n → ⊥
IsPlaceAt members seen n (Some i) =
    (g : FragmentFact) × (slice_get members i ≡ Some g) × (name_of g ≡ n)

-- the place of each name
abbrev pub ArePlaces : List FragmentFact → List FragmentFact → (List ℕ → Option ℕ) → Type 0
ArePlaces members seen place = (n : List ℕ) → IsPlaceAt members seen n (place n)

-- the places of these names
abbrev pub places_by : (List ℕ → Option ℕ) → List (List ℕ) → List ℕ
places_by place names = flat_map (λ n. list_of (place n)) names

-- the places of the fragments that the own set of a fragment spreads
abbrev pub places_spread : (List ℕ → Option ℕ) → Facts → FragmentFact → List ℕ
places_spread place facts g = places_by place (names_spread (fragment_set facts g))

-- no places
abbrev pub no_places : FragmentFact → List ℕ
no_places g = []

-- the fragment at a place, if there is one
abbrev pub member_at : List FragmentFact → ℕ → List FragmentFact
member_at members i = list_of (slice_get members i)

-- the fragment is at a place that is reached from those of these names
abbrev pub IsSpreadFrom : List FragmentFact → (List ℕ → Option ℕ) → Sets → List (List ℕ)
    → FragmentFact → Type 0
IsSpreadFrom members place z names g =
    (i : ℕ) × IsSpreadBy z (places_by place names) i × Contains (member_at members i) g

-- there is a list for these names, with the fragments that are reached from them
abbrev pub IsListFrom : List FragmentFact → (List ℕ → Option ℕ) → Sets → List (List ℕ)
    → SpreadSet → Type 0
IsListFrom members place z names s =
    Lists s.fragments.items (IsSpreadFrom members place z names)

-- there is a list for each of these lists of names, and no other
pub record AreSpreadFrom (members : List FragmentFact) (place : List ℕ → Option ℕ) (z : Sets)
    (names : List (List (List ℕ))) (sets : List SpreadSet) : Type 0 where
  pub has : (ns : List (List ℕ)) → Contains names ns
      → (s : SpreadSet) × Contains sets s × IsListFrom members place z ns s
  pub from : (s : SpreadSet) → Contains sets s
      → (ns : List (List ℕ)) × Contains names ns × IsListFrom members place z ns s
