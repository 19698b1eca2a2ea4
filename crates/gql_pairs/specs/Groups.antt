-- Groups of fragments, with all that clashes between any two of them. Two fragments between which
-- nothing clashes take no room of their own.
use Rattle.std.specs.Prelude.{◌≡◌, ◌↔◌, ℕ, List, [], ◌∷◌, ◌++◌, flat_map, ◌&&◌, bytes_eq, if◌then◌else◌, Contains}
use Rattle.gql_facts.specs.Members.{Lists}
use Rattle.gql_facts.specs.Worlds.{Facts}
use Rattle.gql_facts.specs.declared.fact.Fact.TheVariants as fact
use Rattle.gql_facts.specs.declared.fact.FragmentFact.{FragmentFact}
use Rattle.gql_facts.specs.declared.key.Key.TheVariants as key
use Rattle.gql_merge.specs.Between.{IsBadBetween, PairReads, name_of}
use Rattle.gql_merge.specs.declared.bad_pair.BadPair.{BadPair}
use Rattle.gql_merge.specs.declared.two_fragments.FragmentClash.{FragmentClash}
use Rattle.gql_reads.specs.Observations.{Hold, keys_of}
use Rattle.gql_reads.specs.declared.observation.Observation.{Observation}
use Rattle.gql_pairs.specs.Fragments.{IsCertified as IsFragmentCertified, KeptFragment}

-- some fragments, and what clashes between any two of them, under the names of the two
pub record KeptGroup : Type 0 where
  pub members : List KeptFragment
  pub clashes : List FragmentClash

-- a bad pair under two names
abbrev pub named_clash : List ℕ → List ℕ → BadPair → FragmentClash
named_clash n m b = record { first = n; second = m; bad = b }

-- These are exactly the bad pairs between two fragments, wherever the observations of both hold.
abbrev pub AreClashesOf : List FragmentClash → KeptFragment → KeptFragment → Type 0
AreClashesOf clashes x y = (facts : Facts) → Hold facts x.observations → Hold facts y.observations
    → (b : BadPair) → Contains clashes (named_clash (name_of x.fragment) (name_of y.fragment) b)
    ↔ IsBadBetween facts x.fragment y.fragment b

-- the members are right wherever their observations hold, and so is what clashes between any two
pub record IsCertified (group : KeptGroup) : Type 0 where
  pub each : (x : KeptFragment) → Contains group.members x → IsFragmentCertified x
  pub two : (x y : KeptFragment) → Contains group.members x → Contains group.members y
      → AreClashesOf group.clashes x y

-- ---- what is kept of two fragments

-- the bad pairs between two fragments, and what was observed of the two
pub record KeptPair : Type 0 where
  pub bad : List BadPair
  pub observations : List Observation

-- the bad pair, if it is under these names
abbrev pub bad_if_named : List ℕ → List ℕ → FragmentClash → List BadPair
bad_if_named n m c = if bytes_eq n c.first && bytes_eq m c.second then c.bad ∷ [] else []

-- the bad pairs under these names
abbrev pub bad_under : List ℕ → List ℕ → List FragmentClash → List BadPair
bad_under n m clashes = flat_map (bad_if_named n m) clashes

-- what a group keeps of two of its members
abbrev pub pair_of : KeptGroup → KeptFragment → KeptFragment → KeptPair
pair_of group x y = record {
  bad = bad_under (name_of x.fragment) (name_of y.fragment) group.clashes;
  observations = x.observations ++ y.observations;
}

-- one of these fragments has this name
abbrev pub HasMember : List KeptFragment → List ℕ → Type 0
HasMember members n =
    (x : KeptFragment) × Contains members x × (name_of x.fragment ≡ n)

-- the group keeps this of two fragments of these names
pub record IsPairIn (group : KeptGroup) (n m : List ℕ) (k : KeptPair) : Type 0 where
  pub left : KeptFragment
  pub right : KeptFragment
  pub is_left : Contains group.members left
  pub is_right : Contains group.members right
  pub first : name_of left.fragment ≡ n
  pub second : name_of right.fragment ≡ m
  pub is : k ≡ pair_of group left right

-- What is kept of two fragments is right: they are the fragments of these names, the bad pairs are
-- exactly those between the two, and the keys of the observations are exactly what these depend on.
pub record JudgesPair (facts : Facts) (n m : List ℕ) (k : KeptPair) : Type 0 where
  pub left : FragmentFact
  pub right : FragmentFact
  pub is_left : facts (key.FragmentOf n) ≡ fact.Fragment left
  pub is_right : facts (key.FragmentOf m) ≡ fact.Fragment right
  pub bad : Lists k.bad (IsBadBetween facts left right)
  pub keys : Lists (keys_of k.observations) (PairReads facts left right)

-- it is right wherever its observations hold
abbrev pub IsPairCertified : List ℕ → List ℕ → KeptPair → Type 0
IsPairCertified n m k = (facts : Facts) → Hold facts k.observations → JudgesPair facts n m k

-- nothing is bad between any two of these fragments
abbrev pub AreCleanBetween : Facts → List FragmentFact → Type 0
AreCleanBetween facts fragments = (g h : FragmentFact) → Contains fragments g
    → Contains fragments h → (p : BadPair) → IsBadBetween facts g h p → ⊥

-- the observations of each member hold
abbrev pub MembersHold : Facts → List KeptFragment → Type 0
MembersHold facts members =
    (x : KeptFragment) → Contains members x → Hold facts x.observations

-- the members are of exactly these fragments
pub record AreMembersFor (fragments : List FragmentFact) (members : List KeptFragment)
    : Type 0 where
  pub from : (x : KeptFragment) → Contains members x → Contains fragments x.fragment
  pub all : (g : FragmentFact) → Contains fragments g
      → (x : KeptFragment) × Contains members x × (x.fragment ≡ g)

-- nothing is bad between any two of these members
abbrev pub AreClean : Facts → List KeptFragment → Type 0
AreClean facts members = (x y : KeptFragment) → Contains members x → Contains members y
    → (p : BadPair) → IsBadBetween facts x.fragment y.fragment p → ⊥

-- there are facts with which the observations of each member hold, and nothing is bad between any two
abbrev pub AreSomewhereClean : List KeptFragment → Type 0
AreSomewhereClean members = (facts : Facts) × MembersHold facts members × AreClean facts members
