-- The fields of a selection set, for an object of some type (GraphQL 6.3.2): a field that counts
-- stands for itself; a spread or an inline fragment that counts stands for the fields of its own
-- selections; one that does not count stands for none. The law `fields` says that this is exactly
-- `Unfolds`, which the contracts of gql_collect cite.
use Rattle.std.specs.Prelude.{◌≡◌, ◌↔◌, ℕ, List, [], ◌∷◌, ◌++◌}
use Rattle.gql_collect.specs.Nodes.{FileSelection, FieldNode, node, selections}
use Rattle.gql_collect.specs.Unfolding.{Given, Unfolds, part}

-- these selections stand for these fields
pub data StandFor (g : Given) (t : List ℕ) : List FileSelection → List FieldNode → Type 0 where
  none : StandFor g t [] []
  field : {x : FileSelection} {n : FieldNode} {rest : List FileSelection} {ns : List FieldNode}
      → part g t x ≡ node n → StandFor g t rest ns → StandFor g t (x ∷ rest) (n ∷ ns)
  fragment : {x : FileSelection} {xs rest : List FileSelection} {ms ns : List FieldNode}
      → part g t x ≡ selections xs → StandFor g t xs ms → StandFor g t rest ns
      → StandFor g t (x ∷ rest) (ms ++ ns)

-- selections stand for the fields into which they unfold
abbrev pub Flattens : Type 0
Flattens = (g : Given) (t : List ℕ) (xs : List FileSelection) (ns : List FieldNode)
    → StandFor g t xs ns ↔ Unfolds g t xs ns
