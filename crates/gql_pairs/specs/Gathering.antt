-- Helper definitions for private contracts: fragments that are gathered, one of each name.
use Rattle.std.specs.Prelude.{◌≡◌, ◌⊎◌, ℕ, List, Contains}
use Rattle.gql_facts.specs.declared.fact.FragmentFact.{FragmentFact}
use Rattle.gql_merge.specs.Between.{name_of}

-- one of these fragments has this name
abbrev pub HasName : List FragmentFact → List ℕ → Type 0
HasName found n = (g : FragmentFact) × Contains found g × (name_of g ≡ n)

-- each of these names is that of one of these fragments
abbrev pub AreNames : List (List ℕ) → List FragmentFact → Type 0
AreNames names found = (n : List ℕ) → Contains names n → HasName found n

-- fragments that satisfy P were added, and each name of such a fragment is there
pub record Gathers (P : FragmentFact → Type 0) (old new : List FragmentFact) : Type 0 where
  pub kept : (g : FragmentFact) → Contains old g → Contains new g
  pub from : (g : FragmentFact) → Contains new g → Contains old g ⊎ P g
  pub has : (g : FragmentFact) → P g → HasName new (name_of g)
