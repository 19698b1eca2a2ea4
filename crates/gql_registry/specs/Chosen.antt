-- Which operation of the documents is executed (GraphQL 6.1, GetOperation): the first one of a
-- name, or, without a name, the only one.
use Rattle.std.specs.Prelude.{ℕ, List, [], ◌∷◌, flat_map, find, bytes_eq, Option, Some, None, option_map}
use Rattle.gql_ast.specs.declared.definition.Definition.{Definition}
use Rattle.gql_ast.specs.declared.definition.Document.{Document}
use Rattle.gql_ast.specs.declared.definition.Tree.{Tree}
use Rattle.gql_ast.specs.declared.definition.Tree.TheVariants as tree
use Rattle.gql_ast.specs.declared.text.Name.{Name}

-- an operation that has a name
pub record NamedOperation : Type 0 where
  pub name : List ℕ
  pub definition : Definition

-- a definition with this tree, if it is an operation
abbrev pub operation_by : Definition → Tree → List Definition
operation_by d (tree.Operation o) = d ∷ []
operation_by d _ = []

-- a definition, if it is an operation
abbrev pub operation_in : Definition → List Definition
operation_in d = operation_by d d.tree

-- an operation with its name, if it has one
abbrev pub named_by : Definition → Option Name → List NamedOperation
named_by d (Some name) = record { name = name.text; definition = d } ∷ []
named_by d None = []

-- a definition with this tree, if it is an operation that has a name
abbrev pub named_of : Definition → Tree → List NamedOperation
named_of d (tree.Operation o) = named_by d o.name
named_of d _ = []

-- a definition, if it is an operation that has a name
abbrev pub named_in : Definition → List NamedOperation
named_in d = named_of d d.tree

-- the operations of document files, in the order of the files' names
abbrev pub operations : List (List ℕ × Document) → List Definition
operations documents = flat_map (λ (file : List ℕ × Document).
    flat_map operation_in file.1.definitions) documents

-- the operations of document files that have names, in the same order
abbrev pub named_operations : List (List ℕ × Document) → List NamedOperation
named_operations documents = flat_map (λ (file : List ℕ × Document).
    flat_map named_in file.1.definitions) documents

-- the only one of these, if there is one only
abbrev pub only : List Definition → Option Definition
only (d ∷ []) = Some d
only _ = None

-- the operation that is executed
abbrev pub chosen : List (List ℕ × Document) → Option (List ℕ) → Option Definition
chosen documents (Some name) = option_map (λ (o : NamedOperation). o.definition)
    (find (λ (o : NamedOperation). bytes_eq name o.name) (named_operations documents))
chosen documents None = only (operations documents)
