-- The checks of schema files, each under the name of its file.
use Rattle.std.specs.Prelude.{◌≡◌, ℕ, List}
use Rattle.std.specs.List.{AllZip}
use Rattle.gql_ast.specs.FileMaps.{file_named}
use Rattle.gql_ast.specs.declared.definition.Document.{Document}
use Rattle.gql_ast.specs.declared.files.Files.{Files}
use Rattle.gql_types.specs.declared.schema.Schema.{Schema}
use Rattle.gql_node_rules.specs.FileChecks.{IsCheckOf}
use Rattle.gql_node_rules.specs.declared.file_check.FileCheck.{FileCheck}

-- the check of a file, under the name of the file
pub record IsCheckUnder (s : Schema) (file : List ℕ × Document) (check : List ℕ × FileCheck)
    : Type 0 where
  pub name : check.0 ≡ file.0
  pub of_file : IsCheckOf s file.1 check.1

-- the checks of these files: one for each, in their order
abbrev pub AreChecksOf : Schema → List (List ℕ × Document) → List (List ℕ × FileCheck) → Type 0
AreChecksOf s files checks = AllZip (IsCheckUnder s) files checks

-- every schema file of another name is the same in both
abbrev pub DiffersAt : List ℕ → Files → Files → Type 0
DiffersAt name old new = (other : List ℕ) → (other ≡ name → ⊥)
    → file_named new.schema other ≡ file_named old.schema other
