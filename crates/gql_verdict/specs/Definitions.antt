-- The definitions of all document files, and their names (GraphQL 2.2, 2.3, 2.8).
use Rattle.std.specs.Prelude.{ℕ, List, flat_map, Bool, true, false, Option, Some, None}
use Rattle.gql_ast.specs.declared.definition.Definition.{Definition}
use Rattle.gql_ast.specs.declared.definition.Document.{Document}
use Rattle.gql_ast.specs.declared.definition.Tree.{Tree}
use Rattle.gql_ast.specs.declared.definition.Tree.TheVariants as tree
use Rattle.gql_ast.specs.declared.text.Name.{Name}

-- the definitions of all document files, in the order of the files' names
abbrev pub all_definitions : List (List ℕ × Document) → List Definition
all_definitions documents = flat_map (λ (file : List ℕ × Document). file.1.definitions) documents

-- whether a definition is an operation
abbrev pub is_operation : Tree → Bool
is_operation (tree.Operation o) = true
is_operation _ = false

-- the name of an operation that has one; another definition has none
abbrev pub operation_name : Tree → Option Name
operation_name (tree.Operation o) = o.name
operation_name _ = None

-- the name of a fragment; another definition has none
abbrev pub fragment_name : Tree → Option Name
fragment_name (tree.Fragment f) = Some f.name
fragment_name _ = None
