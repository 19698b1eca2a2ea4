-- Helper definitions for private contracts: what an edit makes of the files, before it is committed.
use Rattle.std.specs.Prelude.{◌≡◌, ◌⊎◌, ℕ, List, Option, Some, None, length, IsTrue}
use Rattle.gql_ast.specs.declared.definition.Document.{Document}
use Rattle.gql_ast.specs.declared.fault.Fault.{Fault}
use Rattle.gql_ast.specs.declared.files.Files.{Files}
use Rattle.gql_facts.specs.Facts.{fragments}
use Rattle.gql_registry.specs.Edits.{Change, IsAccepted, Leaves}
use Rattle.gql_registry.specs.Keeping.{IsIndexOf, IsSideOf}
use Rattle.gql_registry.specs.Report.{IsReport}
use Rattle.gql_registry.specs.State.{State, with_files}
use Rattle.gql_registry.specs.declared.edit_plan.EditPlan.{EditPlan}
use Rattle.gql_registry.specs.declared.report.SchemaSide.{SchemaSide}
use Rattle.gql_schema_rules.specs.ChecksOfFiles.{DiffersAt}
use Rattle.gql_types.specs.Edits.{KeepsOthers}
use Rattle.gql_types.specs.Outlines.{edited_files}
use Rattle.gql_types.specs.Schemas.{schema_of}
use Rattle.gql_verdict.specs.DocumentEdits.{ChangesOnly}
use Rattle.gql_verdict.specs.FileOrder.{AreFilesPlaced}
use Rattle.gql_verdict.specs.NameViews.{KeepsNamesSound, SeesTheSame}
use Rattle.gql_verdict.specs.NewNames.{BringsNewNames}
use Rattle.gql_verdict.specs.SchemaEdits.{IsTouchedBySchema}
use Rattle.gql_verdict.specs.declared.touched.Touched.{Touched}
use Rattle.gql_verdict.specs.declared.touched.Touched.TheVariants.{All}

-- an edit of a schema file changes types of these names alone
pub record IsSchemaEdit (names : List (List ℕ)) (before after : Files) : Type 0 where
  -- the types of other names after the edit are those before it
  pub keeps : KeepsOthers names (schema_of before) (schema_of after)
  -- and those before it are those after it
  pub undone : KeepsOthers names (schema_of after) (schema_of before)

-- The schema is that of files before an edit of the schema file of this name, which changes types of
-- these names alone and makes these files. The edit puts this file, or removes the file of that name
-- if there is none to put.
pub record IsSideBefore (names : List (List ℕ)) (name : List ℕ) (document : Option Document)
    (after : Files) (side : SchemaSide) : Type 0 where
  pub before : Files
  pub side_of : IsSideOf before side
  pub edit : IsSchemaEdit names before after
  pub files : after.schema ≡ edited_files before.schema name document
  pub profile : before.profile ≡ after.profile
  -- the other schema files are the same
  pub elsewhere : DiffersAt name before after

-- what an edit that changes types of these names touches: by the schema before it and after it, or all
abbrev pub IsSchemaTouched : SchemaSide → SchemaSide → List (List ℕ) → Touched → Type 0
IsSchemaTouched before after edited t =
    IsTouchedBySchema before.facts after.facts edited t ⊎ (t ≡ All)

-- the document files have the same fragments before and after an edit, at the same places
abbrev pub KeepsFragments : Files → Files → Type 0
KeepsFragments before after = fragments before.documents ≡ fragments after.documents

-- a document file is put of which the rules on names see the same as of the one in its place, or one
-- that brings only new names
abbrev pub IsToldToKeepNames : List (List ℕ × Document) → List ℕ → Option Document → Type 0
IsToldToKeepNames documents name (Some document) =
    SeesTheSame documents name document ⊎ BringsNewNames documents name document
IsToldToKeepNames documents name None = ⊥

-- the plan of an edit that makes `after` of the files `before`
pub record IsEditPlanTo (before after : Files) (p : EditPlan) : Type 0 where
  pub files : p.files ≡ after
  pub touched : ChangesOnly p.touched before after
  pub schema : IsSideOf after p.schema
  pub index : IsIndexOf after p.index
  pub names : IsTrue p.keeps_names → KeepsNamesSound before after

-- the plan of an edit of these files
pub record IsEditPlanOf (before : Files) (p : EditPlan) : Type 0 where
  pub placed : AreFilesPlaced p.files.documents
  pub touched : ChangesOnly p.touched before p.files
  pub schema : IsSideOf p.files p.schema
  pub index : IsIndexOf p.files p.index
  pub names : IsTrue p.keeps_names → KeepsNamesSound before p.files

-- the change is accepted, and this is a plan of it
pub record IsEditPlanBy (s : State) (c : Change) (p : EditPlan) : Type 0 where
  pub accepted : IsAccepted s c
  pub leaves : Leaves s c (with_files s p.files)
  pub plan : IsEditPlanOf s.files p

-- the number of faults in the report of these files
abbrev pub IsReportLength : Files → ℕ → Type 0
IsReportLength files count =
    (report : List Fault) × IsReport files report × (count ≡ length report)
