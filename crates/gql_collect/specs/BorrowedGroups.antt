-- Helper definitions for contracts: groups of borrowed fields, as specifications see them.
use Rattle.std.specs.Prelude.{ℕ, List, [], ◌∷◌, map, Option, Some, None}
use Rattle.std.specs.Borrow.{Bor}
use Rattle.gql_collect.specs.Borrowed.{node_of}
use Rattle.gql_collect.specs.Groups as spec
use Rattle.gql_collect.specs.Nodes.{FieldNode}
use Rattle.gql_collect.specs.declared.group.Group.{Group}
use Rattle.gql_collect.specs.declared.node.FieldNode.{FieldNode as Node}

-- the fields of this list, without the empty places
abbrev pub others_of : List (Option Node) → List FieldNode
others_of [] = []
others_of (None ∷ ns) = others_of ns
others_of (Some n ∷ ns) = node_of n ∷ others_of ns

-- the fields of a group
abbrev pub nodes_in : Group → List FieldNode
nodes_in g = node_of g.first ∷ others_of g.others.items

-- a group under its response name
abbrev pub group_of : Bor (List ℕ) × Group → spec.Group
group_of e = record { key = e.0.now; nodes = nodes_in e.1 }

-- all groups, in their order
abbrev pub groups_in : List (Bor (List ℕ) × Group) → List spec.Group
groups_in es = map group_of es
