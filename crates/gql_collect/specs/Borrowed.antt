-- Helper definitions for contracts: borrowed selection sets, fields and names, as specifications
-- see them.
use Rattle.std.specs.Prelude.{ℕ, List, map, flat_map}
use Rattle.std.specs.Borrow.{Bor}
use Rattle.gql_collect.specs.Nodes.{FileSelection, FieldNode, in_file}
use Rattle.gql_collect.specs.declared.node.FieldNode.{FieldNode as Node}
use Rattle.gql_collect.specs.declared.node.SelectionSet.{SelectionSet}

-- the selections of a borrowed set, with their file
abbrev pub selections_of : SelectionSet → List FileSelection
selections_of s = in_file s.file.now s.selections.now

-- the selections of sets, one set after the other
abbrev pub all_selections : List SelectionSet → List FileSelection
all_selections sets = flat_map selections_of sets

-- a borrowed field, with its file
abbrev pub node_of : Node → FieldNode
node_of n = record { file = n.file.now; field = n.field.now }

-- borrowed fields, with their files
abbrev pub nodes_of : List Node → List FieldNode
nodes_of ns = map node_of ns

-- borrowed names
abbrev pub names_of : List (Bor (List ℕ)) → List (List ℕ)
names_of ns = map (λ n. n.now) ns
