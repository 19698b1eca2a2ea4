-- Document files that bring only new names, and use the fragments that they bring (GraphQL 5.1.1,
-- 5.2.1.1, 5.2.2.1, 5.5.1.1, 5.5.1.4).
use Rattle.std.specs.Prelude.{◌≡◌, ◌<◌, ◌↔◌, ℕ, List, [], map, length, All, Contains, Some, None}
use Rattle.gql_ast.specs.FileMaps.{file_named}
use Rattle.gql_ast.specs.declared.definition.Definition.{Definition}
use Rattle.gql_ast.specs.declared.definition.Document.{Document}
use Rattle.gql_verdict.specs.Definitions.{all_definitions, fragment_name, operation_name}
use Rattle.gql_verdict.specs.NameFaults.{faults_of}
use Rattle.gql_verdict.specs.NameViews.{Titled, operation, fragment, of_types, titled}
use Rattle.gql_verdict.specs.Naming.{named_by, text_of}
use Rattle.gql_verdict.specs.Spreads.{Names}

-- the names of the operations that have one
abbrev pub names_of_operations : List Definition → Names
names_of_operations ds = map text_of (named_by operation_name ds)

-- the names of the fragments
abbrev pub names_of_fragments : List Definition → Names
names_of_fragments ds = map text_of (named_by fragment_name ds)

-- two lists have the same names
abbrev pub HaveSameNames : Names → Names → Type 0
HaveSameNames names others = (name : List ℕ) → Contains names name ↔ Contains others name

-- a name is none of these
abbrev pub IsNoneOf : Names → List ℕ → Type 0
IsNoneOf names name = Contains names name → ⊥

-- an operation or a fragment with a name that none of its kind has, of which these are the names
abbrev pub HasNewName : Names → Names → Titled → Type 0
HasNewName operations fragments (operation (Some name)) = IsNoneOf operations name
HasNewName operations fragments (operation None) = ⊥
HasNewName operations fragments (fragment name) = IsNoneOf fragments name
HasNewName operations fragments of_types = ⊥

-- each of these definitions is such an operation or fragment
abbrev pub HaveNewNames : Names → Names → List Definition → Type 0
HaveNewNames operations fragments =
    All (λ (d : Definition). HasNewName operations fragments (titled d.tree))

-- a document file brings only new names to these files, and uses the fragments that it brings
pub record BringsNewNames (documents : List (List ℕ × Document)) (name : List ℕ)
    (document : Document) : Type 0 where
  -- no file of this name is there
  pub absent : file_named documents name ≡ None
  -- an operation with a name is there: so none is without a name if no rule finds a fault
  pub named : 0 < length (names_of_operations (all_definitions documents))
  -- the names in the file are not those of other files
  pub new : HaveNewNames (names_of_operations (all_definitions documents))
      (names_of_fragments (all_definitions documents)) document.definitions
  -- no rule on names finds a fault in the file alone: its names differ, and it spreads its fragments
  pub alone : faults_of document.definitions ≡ []
