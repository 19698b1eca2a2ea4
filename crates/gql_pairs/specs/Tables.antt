-- A table of what clashes between fragments: a list of groups. An entry of two fragments is what a
-- group keeps of the two.
use Rattle.std.specs.Prelude.{◌≡◌, ℕ, List, Contains}
use Rattle.gql_facts.specs.Worlds.{Facts}
use Rattle.gql_facts.specs.declared.fact.FragmentFact.{FragmentFact}
use Rattle.gql_merge.specs.Between.{name_of}
use Rattle.gql_reads.specs.Observations.{Hold}
use Rattle.gql_pairs.specs.Fragments.{KeptFragment}
use Rattle.gql_pairs.specs.Groups.{IsPairIn, KeptGroup, KeptPair}

-- the table keeps this of two fragments of these names
abbrev pub IsEntry : List KeptGroup → List ℕ → List ℕ → KeptPair → Type 0
IsEntry table n m k = (group : KeptGroup) × Contains table group × IsPairIn group n m k

-- an entry is kept for these names
abbrev pub HasPair : List KeptGroup → List ℕ → List ℕ → Type 0
HasPair table n m = (k : KeptPair) × IsEntry table n m k

-- an entry is kept for each two of these fragments, and for each one with itself
abbrev pub HasPairs : List KeptGroup → List FragmentFact → Type 0
HasPairs table fragments = (g h : FragmentFact) → Contains fragments g → Contains fragments h
    → HasPair table (name_of g) (name_of h)

-- the member of a group, of this name
abbrev pub IsKnown : List KeptGroup → List ℕ → KeptFragment → Type 0
IsKnown table n x = (group : KeptGroup) × Contains table group × Contains group.members x
    × (name_of x.fragment ≡ n)

-- the observations of all entries hold
abbrev pub AllHold : Facts → List KeptGroup → Type 0
AllHold facts table =
    (n m : List ℕ) (k : KeptPair) → IsEntry table n m k → Hold facts k.observations

-- each entry is still there
abbrev pub Keeps : List KeptGroup → List KeptGroup → Type 0
Keeps old new = (n m : List ℕ) (k : KeptPair) → IsEntry old n m k → IsEntry new n m k

-- each entry whose observations hold is still there
abbrev pub KeepsHolding : Facts → List KeptGroup → List KeptGroup → Type 0
KeepsHolding facts old new = (n m : List ℕ) (k : KeptPair) → IsEntry old n m k
    → Hold facts k.observations → IsEntry new n m k
