-- The schema of files depends on the schema files alone.
use Rattle.std.proofs.Common.{◌≡◌, ℕ, List, Option, subst}
use Rattle.gql_ast.specs.declared.definition.Document.{Document}
use Rattle.gql_ast.specs.declared.fault.Fault.{Fault}
use Rattle.gql_ast.specs.declared.files.Files.{Files}
use Rattle.gql_schema_rules.specs.SchemaFaults.{FaultsBy, by_s01, by_s02, by_s03, by_s04, by_s05, by_s06, by_s07, by_s08, by_s09, by_s10, by_s11, by_s12, by_s13, by_s14, by_s15, by_s16, by_s17, by_s18, by_s19, by_s20, by_s21, by_s22, by_s23, by_s24, by_s25, by_s26, by_s27, by_s28, by_s29, by_s30, by_s31, by_s32, by_s33, by_s34, by_s35, by_s36, by_p01, by_p02}
use Rattle.gql_registry.specs.EditPlans.{IsSchemaEdit, IsSideBefore}
use Rattle.gql_schema_rules.specs.ChecksOfFiles.{DiffersAt}
use Rattle.gql_types.specs.Outlines.{edited_files}
use Rattle.gql_types.specs.declared.schema.Schema.{Schema}
use Rattle.gql_registry.specs.Keeping.{IsSideOf}
use Rattle.gql_registry.specs.declared.report.SchemaSide.{SchemaSide}

abbrev pub FileList : Type 0
FileList = List (List ℕ × Document)

-- the same schema files, with these document files
abbrev pub with_documents : Files → FileList → Files
with_documents files documents = record files { documents = documents }

fault_after : (files : Files) (documents : FileList) (s : Schema) (f : Fault) → FaultsBy files s f
    → FaultsBy (with_documents files documents) s f
fault_after files documents s f (by_s01 h) = by_s01 h
fault_after files documents s f (by_s02 h) = by_s02 h
fault_after files documents s f (by_s03 h) = by_s03 h
fault_after files documents s f (by_s04 h) = by_s04 h
fault_after files documents s f (by_s05 h) = by_s05 h
fault_after files documents s f (by_s06 h) = by_s06 h
fault_after files documents s f (by_s07 h) = by_s07 h
fault_after files documents s f (by_s08 h) = by_s08 h
fault_after files documents s f (by_s09 h) = by_s09 h
fault_after files documents s f (by_s10 h) = by_s10 h
fault_after files documents s f (by_s11 h) = by_s11 h
fault_after files documents s f (by_s12 h) = by_s12 h
fault_after files documents s f (by_s13 h) = by_s13 h
fault_after files documents s f (by_s14 h) = by_s14 h
fault_after files documents s f (by_s15 h) = by_s15 h
fault_after files documents s f (by_s16 h) = by_s16 h
fault_after files documents s f (by_s17 h) = by_s17 h
fault_after files documents s f (by_s18 h) = by_s18 h
fault_after files documents s f (by_s19 h) = by_s19 h
fault_after files documents s f (by_s20 h) = by_s20 h
fault_after files documents s f (by_s21 h) = by_s21 h
fault_after files documents s f (by_s22 h) = by_s22 h
fault_after files documents s f (by_s23 h) = by_s23 h
fault_after files documents s f (by_s24 h) = by_s24 h
fault_after files documents s f (by_s25 h) = by_s25 h
fault_after files documents s f (by_s26 h) = by_s26 h
fault_after files documents s f (by_s27 h) = by_s27 h
fault_after files documents s f (by_s28 h) = by_s28 h
fault_after files documents s f (by_s29 h) = by_s29 h
fault_after files documents s f (by_s30 h) = by_s30 h
fault_after files documents s f (by_s31 h) = by_s31 h
fault_after files documents s f (by_s32 h) = by_s32 h
fault_after files documents s f (by_s33 h) = by_s33 h
fault_after files documents s f (by_s34 h) = by_s34 h
fault_after files documents s f (by_s35 h) = by_s35 h
fault_after files documents s f (by_s36 h) = by_s36 h
fault_after files documents s f (by_p01 h) = by_p01 h
fault_after files documents s f (by_p02 h) = by_p02 h

fault_before : (files : Files) (documents : FileList) (s : Schema) (f : Fault)
    → FaultsBy (with_documents files documents) s f → FaultsBy files s f
fault_before files documents s f (by_s01 h) = by_s01 h
fault_before files documents s f (by_s02 h) = by_s02 h
fault_before files documents s f (by_s03 h) = by_s03 h
fault_before files documents s f (by_s04 h) = by_s04 h
fault_before files documents s f (by_s05 h) = by_s05 h
fault_before files documents s f (by_s06 h) = by_s06 h
fault_before files documents s f (by_s07 h) = by_s07 h
fault_before files documents s f (by_s08 h) = by_s08 h
fault_before files documents s f (by_s09 h) = by_s09 h
fault_before files documents s f (by_s10 h) = by_s10 h
fault_before files documents s f (by_s11 h) = by_s11 h
fault_before files documents s f (by_s12 h) = by_s12 h
fault_before files documents s f (by_s13 h) = by_s13 h
fault_before files documents s f (by_s14 h) = by_s14 h
fault_before files documents s f (by_s15 h) = by_s15 h
fault_before files documents s f (by_s16 h) = by_s16 h
fault_before files documents s f (by_s17 h) = by_s17 h
fault_before files documents s f (by_s18 h) = by_s18 h
fault_before files documents s f (by_s19 h) = by_s19 h
fault_before files documents s f (by_s20 h) = by_s20 h
fault_before files documents s f (by_s21 h) = by_s21 h
fault_before files documents s f (by_s22 h) = by_s22 h
fault_before files documents s f (by_s23 h) = by_s23 h
fault_before files documents s f (by_s24 h) = by_s24 h
fault_before files documents s f (by_s25 h) = by_s25 h
fault_before files documents s f (by_s26 h) = by_s26 h
fault_before files documents s f (by_s27 h) = by_s27 h
fault_before files documents s f (by_s28 h) = by_s28 h
fault_before files documents s f (by_s29 h) = by_s29 h
fault_before files documents s f (by_s30 h) = by_s30 h
fault_before files documents s f (by_s31 h) = by_s31 h
fault_before files documents s f (by_s32 h) = by_s32 h
fault_before files documents s f (by_s33 h) = by_s33 h
fault_before files documents s f (by_s34 h) = by_s34 h
fault_before files documents s f (by_s35 h) = by_s35 h
fault_before files documents s f (by_s36 h) = by_s36 h
fault_before files documents s f (by_p01 h) = by_p01 h
fault_before files documents s f (by_p02 h) = by_p02 h

-- the schema of files is that of the files with other document files, too
same_side : (files : Files) (documents : FileList) (side : SchemaSide) → IsSideOf files side
    → IsSideOf (with_documents files documents) side
same_side files documents side is = record {
  schema = is.schema;
  outline = record { files = is.outline.files; once = is.outline.once };
  facts = is.facts;
  made = is.made;
  kept = record {
    checks = is.kept.checks;
    all = λ f. (λ h. fault_after files documents _ f ((is.kept.all f).0 h), λ h. (is.kept.all f).1 (fault_before files documents _ f h));
    joint = is.kept.joint;
    sound = is.kept.sound;
    quiet = is.kept.quiet;
  };
  faults = record {
    sound = λ f h. fault_after files documents _ f (is.faults.sound f h);
    complete = λ f h. is.faults.complete f (fault_before files documents _ f h);
  };
}

-- so the schema of files is that of all files with the same schema files under the same profile
pub same_schema : (before after : Files) (side : SchemaSide) → before.profile ≡ after.profile → before.schema ≡ after.schema → IsSideOf before side → IsSideOf after side
same_schema before after side p e is =
    subst (λ schema. IsSideOf (record { profile = after.profile; schema = schema; documents = after.documents }) side) e
    (subst (λ profile. IsSideOf (record { profile = profile; schema = before.schema; documents = after.documents }) side) p (same_side before after.documents side is))

-- the schema of the files before an edit of a schema file
pub side_before : (names : List (List ℕ)) (name : List ℕ) (document : Option Document) (before after : Files) (side : SchemaSide) → IsSideOf before side
    → IsSchemaEdit names before after → after.schema ≡ edited_files before.schema name document → before.profile ≡ after.profile → DiffersAt name before after
    → IsSideBefore names name document after side
side_before names name document before after side is edit files profile elsewhere = record {
  before = before;
  side_of = is;
  edit = edit;
  files = files;
  profile = profile;
  elsewhere = elsewhere;
}
