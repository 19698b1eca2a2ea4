-- Helper definitions for private contracts: what of a table still holds.
use Rattle.std.specs.Prelude.{◌≡◌, ◌⊎◌, List, Contains}
use Rattle.gql_facts.specs.Members.{Lists}
use Rattle.gql_facts.specs.Worlds.{Facts}
use Rattle.gql_reads.specs.Observations.{Hold}
use Rattle.gql_pairs.specs.Fragments.{KeptFragment}
use Rattle.gql_pairs.specs.Groups.{KeptGroup}

-- a member of the list that holds
abbrev pub IsKeptOf : Facts → List KeptFragment → KeptFragment → Type 0
IsKeptOf facts members x = Contains members x × Hold facts x.observations

-- a member was added, if it holds
pub record KeepsMember (facts : Facts) (x : KeptFragment) (old new : List KeptFragment)
    : Type 0 where
  pub kept : (y : KeptFragment) → Contains old y → Contains new y
  pub here : Hold facts x.observations → Contains new x
  pub from : (y : KeptFragment) → Contains new y
      → Contains old y ⊎ ((y ≡ x) × Hold facts x.observations)

-- a group with exactly the members of another one that hold, and with its clashes
pub record IsGroupKept (facts : Facts) (old new : KeptGroup) : Type 0 where
  pub members : Lists new.members (IsKeptOf facts old.members)
  pub clashes : new.clashes ≡ old.clashes

-- a group was added without the members that do not hold, if there is one that does
pub record KeepsGroup (facts : Facts) (x : KeptGroup) (old new : List KeptGroup) : Type 0 where
  pub kept : (y : KeptGroup) → Contains old y → Contains new y
  pub here : (m : KeptFragment) → IsKeptOf facts x.members m
      → (y : KeptGroup) × Contains new y × IsGroupKept facts x y
  pub from : (y : KeptGroup) → Contains new y → Contains old y ⊎ IsGroupKept facts x y

-- each group of a table that has a member which holds, without the members that do not
pub record AreGroupsKept (facts : Facts) (old new : List KeptGroup) : Type 0 where
  pub kept : (x : KeptGroup) → Contains old x → (m : KeptFragment) → IsKeptOf facts x.members m
      → (y : KeptGroup) × Contains new y × IsGroupKept facts x y
  pub from : (y : KeptGroup) → Contains new y
      → (x : KeptGroup) × Contains old x × IsGroupKept facts x y
