-- Helper definitions for private contracts: groups with one more field.
use Rattle.std.specs.Prelude.{List, [], ◌∷◌, ◌++◌, bytes_eq, if◌then◌else◌}
use Rattle.gql_collect.specs.Groups.{Group, key_of}
use Rattle.gql_collect.specs.Nodes.{FieldNode}

-- these groups with a field at the end of the group of its response name; a new group comes last
abbrev pub put : List Group → FieldNode → List Group
put [] n = record { key = key_of n; nodes = n ∷ [] } ∷ []
put (g ∷ gs) n = if bytes_eq (key_of n) g.key
    then record { key = g.key; nodes = g.nodes ++ n ∷ [] } ∷ gs else g ∷ put gs n
