-- Helper definitions for contracts: fields of a selection set that are groups of their own.
use Rattle.std.specs.Prelude.{ℕ, List, [], ◌∷◌, flat_map}
use Rattle.gql_ast.specs.declared.executable.Field.{Field}
use Rattle.gql_ast.specs.declared.executable.InlineFragment.{InlineFragment}
use Rattle.gql_ast.specs.declared.executable.Selection.{Selection, out-Selection}
use Rattle.gql_ast.specs.declared.executable.Selection.TheOpen.{Selection-F}
use Rattle.gql_collect.specs.Groups.{Group, key_of}
use Rattle.gql_collect.specs.Nodes.{FileSelection, FieldNode}

-- the group of a field alone
abbrev pub alone : FieldNode → Group
alone n = record { key = key_of n; nodes = n ∷ [] }

-- the group of a field alone; nothing for another selection
abbrev pub alone_at : List ℕ → Selection-F Selection Field InlineFragment → List Group
alone_at file (Selection-F.Field f) = alone (record { file = file; field = f }) ∷ []
alone_at file (Selection-F.Spread x) = []
alone_at file (Selection-F.InlineFragment i) = []

-- the fields among these selections, each as a group
abbrev pub groups_alone : List FileSelection → List Group
groups_alone xs = flat_map (λ (x : FileSelection). alone_at x.file (out-Selection x.selection)) xs
