-- What a definition reads by itself, without the fragments that it spreads.
use Rattle.std.specs.Prelude.{◌≡◌, List, Contains, ℕ}
use Rattle.gql_ast.specs.declared.definition.Tree.{Tree}
use Rattle.gql_ast.specs.declared.definition.Tree.TheVariants as tree
use Rattle.gql_facts.specs.declared.fact.FragmentFact.{FragmentFact}
use Rattle.gql_facts.specs.declared.key.Key.{Key}
use Rattle.gql_facts.specs.OwnReads.{tree_reads}
use Rattle.gql_facts.specs.Reads.{types_in, type_reads}
use Rattle.gql_facts.specs.Worlds.{Facts}

-- The own reads of the tree of a definition: the keys that it reads by itself, and those about each
-- type that is named in the answer to an own read.
pub data Own (facts : Facts) (t : Tree) : Key → Type 0 where
  by_node : {k : Key} → Contains (tree_reads facts t) k → Own facts t k
  by_type : {j k : Key} {n : List ℕ} → Own facts t j → Contains (types_in (facts j)) n
      → Contains (type_reads n) k → Own facts t k

-- the tree of a fragment
abbrev pub tree_of : FragmentFact → Tree
tree_of g = tree.Fragment g.fragment

-- u answers as v does to each own read with v
abbrev pub AgreeOwn : Facts → Facts → Tree → Type 0
AgreeOwn v u t = (k : Key) → Own v t k → u k ≡ v k
