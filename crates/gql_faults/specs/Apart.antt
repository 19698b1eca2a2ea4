-- Helper definitions for private contracts: names that all differ.
use Rattle.std.specs.Prelude.{ℕ, List, [], ◌∷◌, Bool, true, false, not, bytes_eq, ◌&&◌, ◌||◌}
use Rattle.gql_ast.specs.declared.text.Name.{Name}
use Rattle.gql_built_in.specs.declared.sited.Sited.{Sited}

-- one of these names has this text
abbrev pub is_there : List ℕ → List (Sited Name) → Bool
is_there text [] = false
is_there text (n ∷ ns) = bytes_eq text n.node.text || is_there text ns

-- no text occurs twice among these names
abbrev pub are_apart : List (Sited Name) → Bool
are_apart [] = true
are_apart (n ∷ ns) = not (is_there n.node.text ns) && are_apart ns
