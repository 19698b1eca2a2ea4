-- Helper definitions for private contracts: the checks of schema files after an edit, by those
-- before it.
use Rattle.std.specs.Prelude.{◌≡◌, ℕ, List, Some}
use Rattle.gql_ast.specs.FileMaps.{file_named}
use Rattle.gql_ast.specs.declared.definition.Document.{Document}
use Rattle.gql_ast.specs.declared.files.Files.{Files}
use Rattle.gql_types.specs.Schemas.{schema_of}
use Rattle.gql_types.specs.declared.schema.Schema.{Schema}
use Rattle.gql_node_rules.specs.FileChecks.{IsCheckOf}
use Rattle.gql_node_rules.specs.SchemaChanges.{IsChange}
use Rattle.gql_node_rules.specs.declared.file_check.FileCheck.{FileCheck}
use Rattle.gql_node_rules.specs.declared.schema_change.SchemaChange.{SchemaChange}
use Rattle.gql_schema_rules.specs.ChecksOfFiles.{AreChecksOf, DiffersAt}

-- the check is that of the document of this name after an edit of the file `edited`, whatever files
-- the checks before are of, if a file of another name had this document there
abbrev pub IsCheckAfter : List (List ℕ × FileCheck) → List ℕ → SchemaChange → Schema → List ℕ
    → Document → FileCheck → Type 0
IsCheckAfter before edited change after name document check = (old : Files)
    → AreChecksOf (schema_of old) old.schema before → IsChange change (schema_of old) after
    → ((name ≡ edited → ⊥) → file_named old.schema name ≡ Some document)
    → IsCheckOf after document check

-- the check is that of the name after the edit, whatever document the name has
abbrev pub IsKept : List (List ℕ × FileCheck) → List ℕ → SchemaChange → List ℕ → FileCheck → Type 0
IsKept before edited change name check = (after : Schema) → (document : Document)
    → IsCheckAfter before edited change after name document check

-- the checks are those of the files after an edit of the file `edited`, whatever files the checks
-- before are of, if the files of other names are the same there
abbrev pub AreChecksAfter : List (List ℕ × FileCheck) → List ℕ → SchemaChange → Files → Schema
    → List (List ℕ × FileCheck) → Type 0
AreChecksAfter before edited change files after checks = (old : Files)
    → AreChecksOf (schema_of old) old.schema before → IsChange change (schema_of old) after
    → DiffersAt edited old files → AreChecksOf after files.schema checks

-- the check of a file after the edit, under the name of the file
pub record IsUnderAfter (before : List (List ℕ × FileCheck)) (edited : List ℕ)
    (change : SchemaChange) (after : Schema) (file : List ℕ × Document)
    (check : List ℕ × FileCheck) : Type 0 where
  pub name : check.0 ≡ file.0
  pub of_file : IsCheckAfter before edited change after file.0 file.1 check.1
