-- Helper definitions for private contracts: the names of types that came or went with an edit.
use Rattle.std.specs.Prelude.{ℕ, List, Bool, ◌&&◌, not, find, bytes_eq, is_some}
use Rattle.gql_types.specs.Schemas.{type_named}
use Rattle.gql_types.specs.declared.schema.Schema.{Schema}

-- whether a schema has a type of this name, and another has none
abbrev pub is_only_in : Schema → Schema → List ℕ → Bool
is_only_in s other name = is_some (type_named s name) && not (is_some (type_named other name))

-- whether a name is not among those that are gone
abbrev pub is_kept : List (List ℕ) → List ℕ → Bool
is_kept gone name = not (is_some (find (bytes_eq name) gone))
