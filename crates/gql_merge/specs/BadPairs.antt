-- Helper definitions for private contracts: bad pairs of numbered fields, and those between two of
-- some fragments.
use Rattle.std.specs.Prelude.{◌≡◌, ℕ, List, [], ◌∷◌, Option, Some, None, Contains, if◌then◌else◌}
use Rattle.std.specs.List.{slice_get}
use Rattle.gql_clashes.specs.Clashes.{SeedsBetween}
use Rattle.gql_clashes.specs.Numbered.{IsClashPair, nodes_of}
use Rattle.gql_clashes.specs.declared.sets.Mode.{Mode}
use Rattle.gql_clashes.specs.declared.sets.Pair.{Pair}
use Rattle.gql_clashes.specs.declared.sets.Sets.{Sets}
use Rattle.gql_facts.specs.OwnReads.{fragment_reads}
use Rattle.gql_facts.specs.Worlds.{Facts}
use Rattle.gql_facts.specs.declared.fact.Fact.TheVariants as fact
use Rattle.gql_facts.specs.declared.fact.FragmentFact.{FragmentFact}
use Rattle.gql_facts.specs.declared.key.Key.TheVariants as key
use Rattle.gql_merge.specs.Between.{IsBadBetween, name_of}
use Rattle.gql_merge.specs.Conflicts.{place_of}
use Rattle.gql_merge.specs.FieldNodes.{FieldInfo}
use Rattle.gql_merge.specs.Known.{info_in}
use Rattle.gql_merge.specs.MergedNodes.{is_before}
use Rattle.gql_merge.specs.PairFaults.{differ_in_call, differ_in_shape}
use Rattle.gql_merge.specs.declared.bad_pair.BadPair.{BadPair}
use Rattle.gql_merge.specs.declared.flat.FlatField.{FlatField}
use Rattle.gql_merge.specs.declared.two_fragments.FragmentClash.{FragmentClash}

-- ---- of numbered fields

-- the bad pair of two fields, in this order
abbrev pub bad_of : Mode → FieldInfo → FieldInfo → BadPair
bad_of m i j = record {
  about = i.response_name;
  first = place_of i;
  second = place_of j;
  mode = m;
  by_call = differ_in_call m i j;
  by_shape = differ_in_shape i j;
}

-- the bad pair of two fields, in their order
abbrev pub ordered_bad : Mode → FieldInfo → FieldInfo → BadPair
ordered_bad m i j = if is_before i j then bad_of m i j else bad_of m j i

-- the bad pair of two fields, if both are there
abbrev pub bad_if : Mode → Option FlatField → Option FlatField → List BadPair
bad_if m None y = []
bad_if m (Some x) None = []
bad_if m (Some x) (Some y) = ordered_bad m (info_in x.known) (info_in y.known) ∷ []

-- the bad pair of the two fields that a pair of numbers refers to
abbrev pub bad_at : List FlatField → Pair → List BadPair
bad_at all p = bad_if p.mode (slice_get all p.first) (slice_get all p.second)

-- a bad pair between the bodies i and j
abbrev pub IsBadAt : Sets → List FlatField → ℕ → ℕ → BadPair → Type 0
IsBadAt z all i j b = (p : Pair) × IsClashPair z (SeedsBetween (nodes_of z) i j) p
    × Contains (bad_at all p) b

-- ---- of fragments

-- a bad pair between two fragments, under their names, by their numbers
abbrev pub IsClashAt : Sets → List FlatField → (List ℕ → Option ℕ) → FragmentFact → FragmentFact
    → FragmentClash → Type 0
IsClashAt z all number g h c = (i j : ℕ) × (number (name_of g) ≡ Some i)
    × (number (name_of h) ≡ Some j) × (c.first ≡ name_of g) × (c.second ≡ name_of h)
    × IsBadAt z all i j c.bad

-- a bad pair between a fragment and one of some others
abbrev pub IsClashInRow : Sets → List FlatField → (List ℕ → Option ℕ) → FragmentFact
    → List FragmentFact → FragmentClash → Type 0
IsClashInRow z all number g others c = (h : FragmentFact) × Contains others h
    × IsClashAt z all number g h c

-- a bad pair between one of some fragments and one of others
abbrev pub IsClashInRows : Sets → List FlatField → (List ℕ → Option ℕ) → List FragmentFact
    → List FragmentFact → FragmentClash → Type 0
IsClashInRows z all number fragments others c = (g : FragmentFact) × Contains fragments g
    × IsClashInRow z all number g others c

-- a bad pair between two of these fragments, under their names
abbrev pub IsClashOfTwo : Facts → List FragmentFact → FragmentClash → Type 0
IsClashOfTwo facts fragments c = (g h : FragmentFact) × Contains fragments g
    × Contains fragments h × (c.first ≡ name_of g) × (c.second ≡ name_of h)
    × IsBadBetween facts g h c.bad

-- each of these fragments is the one of its name, and all that they spread is among them
pub record AreClosed (facts : Facts) (members : List FragmentFact) : Type 0 where
  pub named : (g : FragmentFact) → Contains members g
      → facts (key.FragmentOf (name_of g)) ≡ fact.Fragment g
  pub closed : (f g : FragmentFact) (n : List ℕ) → Contains members f
      → Contains (fragment_reads facts f.fragment) (key.FragmentOf n)
      → facts (key.FragmentOf n) ≡ fact.Fragment g → Contains members g
