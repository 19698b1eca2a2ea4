-- Helper definitions for private contracts: the sets of a definition and of the fragments that it
-- reaches, by their numbers.
use Rattle.std.specs.Prelude.{◌≡◌, ℕ, List, [], ◌∷◌, ◌++◌, flat_map, Option, Some, None, Contains}
use Rattle.std.specs.List.{slice_get}
use Rattle.gql_ast.specs.declared.definition.Definition.{Definition}
use Rattle.gql_facts.specs.Worlds.{Facts}
use Rattle.gql_facts.specs.declared.fact.FragmentFact.{FragmentFact}
use Rattle.gql_merge.specs.FieldNodes.{SetNode}
use Rattle.gql_merge.specs.Flat.{Draws}
use Rattle.gql_merge.specs.MergedNodes.{fragment_part, fragment_set, sets_in, sets_of}
use Rattle.gql_merge.specs.declared.flat.FlatSet.{FlatSet}

-- the sets of a fragment; its own is the last
abbrev pub fragment_sets : Facts → FragmentFact → List SetNode
fragment_sets facts g = sets_of (fragment_part facts g.file g.fragment)

-- all sets, those of the definition first
abbrev pub all_sets : Facts → Definition → List FragmentFact → List SetNode
all_sets facts d members = sets_in facts d ++ flat_map (fragment_sets facts) members

-- the number of a fragment's own set, by its name, or none if none of these fragments has the name
abbrev pub IsIndexAt : Facts → List SetNode → List FragmentFact → List ℕ → Option ℕ → Type 0
IsIndexAt facts sets members name None =
    (g : FragmentFact) → Contains members g → g.fragment.name.text ≡ name → ⊥
IsIndexAt facts sets members name (Some i) = (g : FragmentFact)
    × Contains members g × (g.fragment.name.text ≡ name)
    × (slice_get sets i ≡ Some (fragment_set facts g))

-- for each name, the number of that fragment's own set
abbrev pub IsIndex : Facts → List SetNode → List FragmentFact → (List ℕ → Option ℕ) → Type 0
IsIndex facts sets members number =
    (name : List ℕ) → IsIndexAt facts sets members name (number name)

-- the sets of a fragment are added, and the number of its own set
abbrev pub AddsMember : Facts → FragmentFact → List FlatSet → (List ℕ → Option ℕ)
    → List FlatSet → (List ℕ → Option ℕ) → Type 0
AddsMember facts g sets number sets_after number_after =
    (before : List SetNode) (members : List FragmentFact)
    → Draws sets before → IsIndex facts before members number
    → Draws sets_after (before ++ fragment_sets facts g)
    × IsIndex facts (before ++ fragment_sets facts g) (members ++ g ∷ []) number_after

-- the sets of these fragments are added, and the numbers of their own sets; there were no numbers
abbrev pub AddsMembers : Facts → List FragmentFact → List FlatSet
    → List FlatSet → (List ℕ → Option ℕ) → Type 0
AddsMembers facts members sets sets_after number_after =
    (before : List SetNode) → Draws sets before
    → Draws sets_after (before ++ flat_map (fragment_sets facts) members)
    × IsIndex facts (before ++ flat_map (fragment_sets facts) members) members number_after
