-- Helper definitions for private contracts: names of fragments, as they are found.
use Rattle.std.specs.Prelude.{ℕ, ◌≡◌, ◌⊎◌, List, [], ◌∷◌, ◌++◌, Contains}
use Rattle.gql_facts.specs.Worlds.{Facts}
use Rattle.gql_facts.specs.declared.fact.FragmentFact.{FragmentFact}
use Rattle.gql_removal.specs.declared.removal.Removal.{Removal}
use Rattle.gql_usage.specs.Breaks.{Breaks}
use Rattle.gql_usage.specs.Stored.{IsStored, definition_of}
use Rattle.gql_verdict.specs.Verdicts.{Judgement}

-- the name of a fragment is added if the removal breaks the fragment
abbrev pub AddsName : Facts → Removal → FragmentFact → List (List ℕ) → List (List ℕ) → Type 0
AddsName facts r g old new =
    (Breaks facts r (definition_of g) × (new ≡ old ++ g.fragment.name.text ∷ []))
    ⊎ ((Breaks facts r (definition_of g) → ⊥) × (new ≡ old))

-- each of these fragments is that of a stored definition
abbrev pub AreAllStored : Facts → List Judgement → List FragmentFact → Type 0
AreAllStored facts shelf gs = (g : FragmentFact) → Contains gs g
    → IsStored facts shelf (definition_of g)

-- the name of one of these fragments, which the removal breaks
abbrev pub IsBrokenName : Facts → Removal → List FragmentFact → List ℕ → Type 0
IsBrokenName facts r gs n = (g : FragmentFact) × Contains gs g
    × Breaks facts r (definition_of g) × (g.fragment.name.text ≡ n)
