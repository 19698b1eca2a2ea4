-- The faults of a definition by the merging of fields, by its own fields and by the pairs of fragments
-- that its sets spread. The bad pairs of two fragments are the same for each definition.
use Rattle.std.specs.Prelude.{◌≡◌, ℕ, List, [], ◌∷◌, Some, true, Contains}
use Rattle.gql_ast.specs.declared.definition.Definition.{Definition}
use Rattle.gql_ast.specs.declared.fault.Fault.{Fault}
use Rattle.gql_ast.specs.declared.fault.FilePlace.{FilePlace}
use Rattle.gql_ast.specs.declared.rule.Rule.{Rule}
use Rattle.gql_ast.specs.declared.rule.Rule.TheVariants as rule
use Rattle.gql_clashes.specs.Clashes.{IsClash}
use Rattle.gql_clashes.specs.Parts.{OwnSeeds}
use Rattle.gql_clashes.specs.declared.sets.Mode.{Mode}
use Rattle.gql_facts.specs.Worlds.{Facts}
use Rattle.gql_facts.specs.declared.fact.Fact.TheVariants as fact
use Rattle.gql_facts.specs.declared.fact.FragmentFact.{FragmentFact}
use Rattle.gql_facts.specs.declared.key.Key.TheVariants as key
use Rattle.gql_rules.specs.LocalFaults.{owner_of}
use Rattle.gql_merge.specs.Between.{IsBadBetween, bad_pair}
use Rattle.gql_merge.specs.FieldNodes.{FieldNode, SetNode, names_spread}
use Rattle.gql_merge.specs.MergedNodes.{fragment_set, is_before, nodes, sets_in}
use Rattle.gql_merge.specs.declared.bad_pair.BadPair.{BadPair}

-- the fragment is spread in the set, in one step or more, not below fields
pub data Spreads (facts : Facts) (s : SetNode) : FragmentFact → Type 0 where
  by_set : {n : List ℕ} {g : FragmentFact} → Contains (names_spread s) n
      → facts (key.FragmentOf n) ≡ fact.Fragment g → Spreads facts s g
  by_fragment : {n : List ℕ} {f g : FragmentFact} → Spreads facts s f
      → Contains (names_spread (fragment_set facts f)) n
      → facts (key.FragmentOf n) ≡ fact.Fragment g → Spreads facts s g

-- a set of the definition spreads both fragments; the two may be one
abbrev pub IsPairOf : Facts → Definition → FragmentFact → FragmentFact → Type 0
IsPairOf facts d g h = (s : SetNode) × Contains (sets_in facts d) s
    × Spreads facts s g × Spreads facts s h

-- a bad pair from the seeds of one of the definition's sets with a field of that set, or of its
-- inline fragments
pub data IsOwnBad (facts : Facts) (d : Definition) : BadPair → Type 0 where
  clash : {s : SetNode} {x y : FieldNode} {m : Mode} → Contains (sets_in facts d) s
      → IsClash (nodes facts) (OwnSeeds (nodes facts) s) x y m → is_before x.its y.its ≡ true
      → IsOwnBad facts d (bad_pair facts x y m)

-- a bad pair of the definition: one of its own, or one between two fragments that it spreads in one
-- set
pub data IsBadOf (facts : Facts) (d : Definition) : BadPair → Type 0 where
  by_own : {p : BadPair} → IsOwnBad facts d p → IsBadOf facts d p
  by_two : {g h : FragmentFact} {p : BadPair} → IsPairOf facts d g h → IsBadBetween facts g h p
      → IsBadOf facts d p

-- the fault of a bad pair, by the definition that reports it
abbrev pub fault_of : FilePlace → Rule → BadPair → Fault
fault_of owner rule p = record {
  rule = rule;
  about = p.about;
  places = p.first ∷ p.second ∷ [];
  owner = Some owner;
}

-- the faults of a definition, by its bad pairs
pub data IsFaultByPairs (facts : Facts) (d : Definition) : Fault → Type 0 where
  calls_differ : {p : BadPair} → IsBadOf facts d p → p.by_call ≡ true
      → IsFaultByPairs facts d (fault_of (owner_of d) rule.V05 p)
  shapes_differ : {p : BadPair} → IsBadOf facts d p → p.by_shape ≡ true
      → IsFaultByPairs facts d (fault_of (owner_of d) rule.V06 p)
