-- What the rules on names see of a definition: whether it is an operation or a fragment, its name, and
-- the names that it spreads (GraphQL 5.1.1, 5.2.1.1, 5.2.2.1, 5.5.1.1, 5.5.1.4).
use Rattle.std.specs.Prelude.{◌≡◌, ℕ, List, [], map, Option, Some, option_map}
use Rattle.gql_ast.specs.FileMaps.{file_named}
use Rattle.gql_ast.specs.declared.definition.Definition.{Definition}
use Rattle.gql_ast.specs.declared.definition.Document.{Document}
use Rattle.gql_ast.specs.declared.definition.Tree.{Tree}
use Rattle.gql_ast.specs.declared.definition.Tree.TheVariants as tree
use Rattle.gql_ast.specs.declared.files.Files.{Files}
use Rattle.gql_ast.specs.declared.text.Name.{Name}
use Rattle.gql_verdict.specs.NameFaults.{name_faults}
use Rattle.gql_verdict.specs.Spreads.{Names, tree_spreads}

-- a kind of definition, with its name
pub data Titled : Type 0 where
  -- an operation, with its name if it has one
  operation : Option (List ℕ) → Titled
  -- a fragment
  fragment : List ℕ → Titled
  -- a definition or an extension of the type system
  of_types : Titled

-- the kind and the name of a definition
abbrev pub titled : Tree → Titled
titled (tree.Operation o) = operation (option_map (λ (n : Name). n.text) o.name)
titled (tree.Fragment f) = fragment f.name.text
titled _ = of_types

-- what the rules on names see of a definition
pub record NameView : Type 0 where
  pub title : Titled
  pub spreads : Names

-- what they see of this definition
abbrev pub view_of : Definition → NameView
view_of d = record { title = titled d.tree; spreads = tree_spreads d.tree }

-- what they see of these definitions
abbrev pub views_of : List Definition → List NameView
views_of = map view_of

-- a file of this name is there, and the rules on names see the same of it as of this one
abbrev pub SeesTheSame : List (List ℕ × Document) → List ℕ → Document → Type 0
SeesTheSame documents name document =
    option_map (λ (d : Document). views_of d.definitions) (file_named documents name)
    ≡ Some (views_of document.definitions)

-- no rule on names finds a fault in these files
abbrev pub AreNamesSound : Files → Type 0
AreNamesSound files = name_faults files ≡ []

-- if no rule on names finds a fault before an edit, none does after it
abbrev pub KeepsNamesSound : Files → Files → Type 0
KeepsNamesSound before after = AreNamesSound before → AreNamesSound after
