-- What clashes between two fragments (GraphQL 5.3.2). It depends on nothing but the two, so that it is
-- the same for each definition that spreads them.
use Rattle.std.specs.Prelude.{◌≡◌, ◌⊎◌, ℕ, List, true}
use Rattle.gql_ast.specs.declared.definition.Definition.{Definition}
use Rattle.gql_ast.specs.declared.definition.Tree.TheVariants as tree
use Rattle.gql_clashes.specs.Clashes.{IsClash, SeedsBetween, is_bad_call, is_bad_shape}
use Rattle.gql_clashes.specs.declared.sets.Mode.{Mode}
use Rattle.gql_facts.specs.Reads.{Reads}
use Rattle.gql_facts.specs.Worlds.{Facts}
use Rattle.gql_facts.specs.declared.fact.FragmentFact.{FragmentFact}
use Rattle.gql_facts.specs.declared.key.Key.{Key}
use Rattle.gql_facts.specs.declared.key.Key.TheVariants as key
use Rattle.gql_merge.specs.Conflicts.{place_of}
use Rattle.gql_merge.specs.FieldNodes.{FieldNode}
use Rattle.gql_merge.specs.MergedNodes.{fragment_set, is_before, nodes}
use Rattle.gql_merge.specs.declared.bad_pair.BadPair.{BadPair}

-- the fragment as a definition
abbrev pub definition_of : FragmentFact → Definition
definition_of g = record { file = g.file; tree = tree.Fragment g.fragment }

-- the name of the fragment
abbrev pub name_of : FragmentFact → List ℕ
name_of g = g.fragment.name.text

-- two fields clash between the fragments g and h: from the seeds with a field of the own set of g, or
-- of its inline fragments, and one of that of h
abbrev pub IsClashBetween : Facts → FragmentFact → FragmentFact → FieldNode → FieldNode → Mode
    → Type 0
IsClashBetween facts g h = IsClash (nodes facts)
    (SeedsBetween (nodes facts) (fragment_set facts g) (fragment_set facts h))

-- two fields that clash, without who reports them
abbrev pub bad_pair : Facts → FieldNode → FieldNode → Mode → BadPair
bad_pair facts x y m = record {
  about = x.its.response_name;
  first = place_of x.its;
  second = place_of y.its;
  mode = m;
  by_call = is_bad_call (nodes facts) m x y;
  by_shape = is_bad_shape (nodes facts) x y;
}

-- a bad pair between two fragments, the field first that is first in file order
pub data IsBadBetween (facts : Facts) (g h : FragmentFact) : BadPair → Type 0 where
  clash : {x y : FieldNode} {m : Mode} → IsClashBetween facts g h x y m
      → is_before x.its y.its ≡ true → IsBadBetween facts g h (bad_pair facts x y m)

-- what the bad pairs between the fragments g and h depend on: the two, and all that each reads
abbrev pub PairReads : Facts → FragmentFact → FragmentFact → Key → Type 0
PairReads facts g h k =
    ((k ≡ key.FragmentOf (name_of g)) ⊎ Reads facts (definition_of g) k)
    ⊎ ((k ≡ key.FragmentOf (name_of h)) ⊎ Reads facts (definition_of h) k)
