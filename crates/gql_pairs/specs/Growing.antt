-- Helper definitions for private contracts: a group that a larger one takes the place of.
use Rattle.std.specs.Prelude.{◌≡◌, ◌⊎◌, ℕ, List, [], Some, Contains}
use Rattle.std.specs.List.{slice_get}
use Rattle.gql_facts.specs.Worlds.{Facts}
use Rattle.gql_facts.specs.declared.fact.FragmentFact.{FragmentFact}
use Rattle.gql_merge.specs.Between.{name_of}
use Rattle.gql_reads.specs.Observations.{Hold}
use Rattle.gql_pairs.specs.Fragments.{IsCertified, KeptFragment}
use Rattle.gql_pairs.specs.Groups.{HasMember, KeptGroup}

-- each member of the group has one of these names
abbrev pub IsWithin : KeptGroup → List (List ℕ) → Type 0
IsWithin group names = (x : KeptFragment) → Contains group.members x
    → Contains names (name_of x.fragment)

-- a group without clashes, each of whose members has one of these names
pub record IsBase (names : List (List ℕ)) (group : KeptGroup) : Type 0 where
  pub clean : group.clashes ≡ []
  pub within : IsWithin group names

-- such a group stands here in the table
abbrev pub IsBaseAt : List KeptGroup → List (List ℕ) → ℕ → Type 0
IsBaseAt table names at = (x : KeptGroup) × (slice_get table at ≡ Some x) × IsBase names x

-- a member of this fragment that is right and holds
pub record IsFor (facts : Facts) (g : FragmentFact) (x : KeptFragment) : Type 0 where
  pub is : x.fragment ≡ g
  pub hold : Hold facts x.observations
  pub certified : IsCertified x

-- the member of a fragment was added, unless the group has one of its name
pub record AddsOther (facts : Facts) (group : KeptGroup) (g : FragmentFact)
    (old new : List KeptFragment) : Type 0 where
  pub kept : (x : KeptFragment) → Contains old x → Contains new x
  pub from : (x : KeptFragment) → Contains new x → Contains old x ⊎ IsFor facts g x
  pub here : HasMember group.members (name_of g)
      ⊎ ((x : KeptFragment) × Contains new x × (x.fragment ≡ g))

-- the members that a larger group has, once these fragments were looked at
pub record Grows (facts : Facts) (group : KeptGroup) (fragments : List FragmentFact)
    (members : List KeptFragment) : Type 0 where
  pub kept : (x : KeptFragment) → Contains group.members x → Contains members x
  pub from : (x : KeptFragment) → Contains members x → Contains group.members x
      ⊎ ((g : FragmentFact) × Contains fragments g × IsFor facts g x)
  pub all : (g : FragmentFact) → Contains fragments g → HasMember group.members (name_of g)
      ⊎ ((x : KeptFragment) × Contains members x × (x.fragment ≡ g))
