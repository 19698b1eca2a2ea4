-- Helper definitions for private contracts: the parts of fragments that a walk has met.
use Rattle.std.specs.Prelude.{◌≡◌, ◌++◌, ℕ, ◌≤◌, List, Contains, Some, length, map, take}
use Rattle.gql_ast.specs.declared.definition.Definition.{Definition}
use Rattle.gql_facts.specs.Reads.{Reaches}
use Rattle.gql_facts.specs.Worlds.{Facts}
use Rattle.gql_facts.specs.declared.fact.Fact.TheVariants as fact
use Rattle.gql_facts.specs.declared.fact.FragmentFact.{FragmentFact}
use Rattle.gql_facts.specs.declared.key.Key.TheVariants as key
use Rattle.gql_reads.specs.Own.{tree_of}
use Rattle.gql_reads.specs.Readings.{members_of, name_of}
use Rattle.gql_reads.specs.Records.{IsRecord, IsTold, Kept}
use Rattle.gql_reads.specs.Tables.{Entries, entry_at}
use Rattle.gql_reads.specs.declared.observation.Answer.{Answer}

-- the fragment is the one of its name
abbrev pub IsNamed : Facts → FragmentFact → Type 0
IsNamed facts g = facts (key.FragmentOf (name_of g)) ≡ fact.Fragment g

-- the part of a fragment: it is the entry of the table, and its record is right
pub record IsPartOf (facts : Facts) (entries : Entries) (g : FragmentFact) (p : Kept)
    : Type 0 where
  pub is : p.fragment ≡ g
  pub entry : entry_at entries (name_of g) ≡ Some p
  pub seen : IsRecord facts (tree_of g) p.seen

-- the parts that were met, and the names of their fragments
pub record AreMet (facts : Facts) (entries : Entries) (names : List (List ℕ)) (parts : List Kept)
    : Type 0 where
  pub named : names ≡ map (λ (p : Kept). name_of p.fragment) parts
  pub each : (p : Kept) → Contains parts p → IsPartOf facts entries p.fragment p

-- the fragments that satisfy P were met, and no others
pub record Meets (P : FragmentFact → Type 0) (old new : List Kept) : Type 0 where
  pub more : List Kept
  pub is : new ≡ old ++ more
  pub from : (p : Kept) → Contains more p → P p.fragment
  pub all : (g : FragmentFact) → P g → Contains (members_of new) g

-- What a walk from d has done: the fragments that its own record tells were met, and those that the
-- records of the first `at` parts tell.
pub record IsReaching (facts : Facts) (d : Definition) (own : List Answer)
    (at : ℕ) (parts : List Kept) : Type 0 where
  pub within : at ≤ length parts
  pub reached : (p : Kept) → Contains parts p → Reaches facts d p.fragment
  pub own_met : (g : FragmentFact) → IsTold own g → Contains (members_of parts) g
  pub followed : (p : Kept) (g : FragmentFact) → Contains (take at parts) p → IsTold p.seen g
      → Contains (members_of parts) g
