-- What is kept of the operations of document files.
use Rattle.std.specs.Prelude.{◌≡◌, ◌↔◌, ◌++◌, ◌∷◌, [], ℕ, suc, List, Contains, Option, Some, None, flat_map, option_map}
use Rattle.std.specs.List.Sorted.{IsStrictlySortedBy}
use Rattle.std.specs.Map.{keys_of}
use Rattle.std.specs.Option.{option_to_list}
use Rattle.gql_ast.specs.FileMaps.{name_order}
use Rattle.gql_ast.specs.declared.definition.Definition.{Definition}
use Rattle.gql_ast.specs.declared.definition.Document.{Document}
use Rattle.gql_ast.specs.declared.definition.Tree.{Tree}
use Rattle.gql_ast.specs.declared.definition.Tree.TheVariants as tree
use Rattle.gql_ast.specs.declared.text.Name.{Name}
use Rattle.gql_chunks.specs.Edits.{IsEdited}
use Rattle.gql_chunks.specs.Lists.{AreInOrder}
use Rattle.gql_registry.specs.OperationOrders.{operation_order}
use Rattle.gql_registry.specs.declared.kept_operation.KeptOperation.{KeptOperation}
use Rattle.gql_registry.specs.declared.operations.Operations.{Operations}

-- the text of a name, if there is one
abbrev pub text_in : Option Name → Option (List ℕ)
text_in name = option_map (λ (n : Name). n.text) name

-- a definition of a file with this tree as an operation that is kept, if it is one
abbrev pub kept_by : List ℕ → ℕ → Definition → Tree → Option KeptOperation
kept_by file number d (tree.Operation o) =
    Some (record { name = text_in o.name; file = file; number = number; definition = d })
kept_by file number d _ = None

-- a definition of a file as an operation that is kept, if it is one
abbrev pub kept_as : List ℕ → ℕ → Definition → Option KeptOperation
kept_as file number d = kept_by file number d d.tree

-- the operations among definitions of a file, of which this is the number of the first
abbrev pub kept_from : List ℕ → ℕ → List Definition → List KeptOperation
kept_from file number [] = []
kept_from file number (d ∷ ds) =
    option_to_list (kept_as file number d) ++ kept_from file (suc number) ds

-- the operations of the file of a name, if there is this file
abbrev pub kept_in : List ℕ → Option Document → List KeptOperation
kept_in file None = []
kept_in file (Some document) = kept_from file 0 document.definitions

-- the operations of document files
abbrev pub kept_operations : List (List ℕ × Document) → List KeptOperation
kept_operations documents =
    flat_map (λ (file : List ℕ × Document). kept_in file.0 (Some file.1)) documents

-- two lists have the same operations
abbrev pub HaveSame : List KeptOperation → List KeptOperation → Type 0
HaveSame operations others = (x : KeptOperation) → Contains operations x ↔ Contains others x

-- these are exactly the operations of the file of a name, if there is this file
abbrev pub AreOperationsIn : List ℕ → Option Document → List KeptOperation → Type 0
AreOperationsIn file document operations = HaveSame operations (kept_in file document)

-- these are exactly the operations of the document files, in their order; and the files are in the
-- order of their names
pub record IsIndexOf (documents : List (List ℕ × Document)) (o : Operations) : Type 0 where
  pub files : IsStrictlySortedBy name_order (keys_of documents)
  pub ordered : AreInOrder operation_order o.all
  pub items : HaveSame o.all (kept_operations documents)

-- these operations with one more, if there is one
abbrev pub IsWith : List KeptOperation → Option KeptOperation → List KeptOperation → Type 0
IsWith before None after = after ≡ before
IsWith before (Some x) after = IsEdited operation_order before [] (x ∷ []) after

-- the names of operations that have one
abbrev pub names_in : List KeptOperation → List (List ℕ)
names_in operations = flat_map (λ (o : KeptOperation). option_to_list o.name) operations
