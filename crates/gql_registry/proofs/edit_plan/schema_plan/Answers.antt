use Rattle.std.proofs.Common.{◌∙◌, ap, subst, sym}
use Rattle.std.specs.Option.{option_copied}
use Rattle.gql_ast.specs.declared.fault.FileSide.TheVariants.{Schema}
use Rattle.gql_ast.specs.declared.files.Files.{Files}
use Rattle.gql_registry.specs.EditPlans.{IsSchemaEdit}
use Rattle.gql_registry.specs.Keeping.{IsIndexOf, IsSideOf}
use Rattle.gql_registry.specs.Sides.{with_file}
use Rattle.gql_registry.proofs.PlannedFiles.{schema_edited, schema_files}
use Rattle.gql_registry.proofs.SchemaTouched.{schema_touches}
use Rattle.gql_verdict.specs.DocumentEdits.{ChangesOnly}
use Rattle.gql_verdict.specs.NameViews.{AreNamesSound}
use Rattle.gql_registry.proofs.SameFragments.{same_index}
use Rattle.gql_registry.proofs.SameSchema.{side_before}
use Rattle.gql_registry.proofs.UndoneEdits.{differs_at}
use Rattle.gql_registry.proofs.edit_plan.schema_plan.Goals as goal
use Rattle.gql_schema_rules.specs.ChecksOfFiles.{DiffersAt}
use Rattle.gql_types.specs.Outlines.{edited_files}

pub edited_schema-requires : goal.edited_schema-requires
edited_schema-requires c =
    let made : Files = record c.in_ok-changed.changed { schema = c.edit_file.new.files } in
    let new = c.in_ok-edit_file.ensures ∙ ap (edited_files c.in_ok-changed.changed.schema c.args.name.now) c.in_ok-shared.ensures in
    let is = schema_edited c.args.files.now c.in_ok-changed.changed c.args.name.now c.args.document _ c.in_ok-changed.ensures new in
    let files = c.in_ok-edit_file.ensures ∙ ap (λ (f : Files). edited_files f.schema c.args.name.now c.in_ok-shared.shared) c.in_ok-changed.ensures
    ∙ ap (edited_files c.args.files.now.schema c.args.name.now) (sym c.document_in-put.ensures) in
    side_before c.in_ok-edited.edited c.args.name.now (option_copied c.document_in-put.result) c.args.files.now made c.get-before.result.now
    (subst (IsSideOf c.args.files.now) (sym c.get-before.ensures) c.requires.schema)
    (subst (λ (f : Files). IsSchemaEdit c.in_ok-edited.edited c.args.files.now f)
    (ap (with_file Schema c.args.files.now c.args.name.now) c.as_ref.ensures.value ∙ is)
    c.in_ok-edited.ensures)
    files
    (sym (ap (λ (f : Files). f.profile) c.in_ok-changed.ensures))
    (subst (λ (f : Files). DiffersAt c.args.name.now c.args.files.now f) is (differs_at c.args.files.now c.args.name.now c.args.document))

pub returns : goal.returns
returns c =
    let before = c.args.files.now in
    let made : Files = record c.in_ok-changed.changed { schema = c.edit_file.new.files } in
    let new = c.in_ok-edit_file.ensures ∙ ap (edited_files c.in_ok-changed.changed.schema c.args.name.now) c.in_ok-shared.ensures in
    let is = schema_edited before c.in_ok-changed.changed c.args.name.now c.args.document _ c.in_ok-changed.ensures new in
    let edit : IsSchemaEdit c.in_ok-edited.edited before made = subst (λ (f : Files). IsSchemaEdit c.in_ok-edited.edited before f) (ap (with_file Schema before c.args.name.now) c.as_ref.ensures.value ∙ is) c.in_ok-edited.ensures in
    record {
      files = sym is;
      touched = subst (λ (f : Files). ChangesOnly c.in_ok-touched.touched before f) (sym is)
          (schema_touches c.edit_schema.ensures before made c.get-before.result.now c.get.result.now c.in_ok-edited.edited c.in_ok-touched.touched
          (subst (IsSideOf before) (sym c.get-before.ensures) c.requires.schema) (subst (IsSideOf made) (sym c.get.ensures) c.in_ok-schema.ensures) edit
          (sym (ap (λ (f : Files). f.documents) c.in_ok-changed.ensures)) c.in_ok-touched.ensures);
      schema = subst (λ (f : Files). IsSideOf f c.in_ok-schema.schema) (sym is) c.in_ok-schema.ensures;
      index = same_index before (with_file Schema before c.args.name.now c.args.document) c.in_ok-index.index
          (sym (ap (λ (f : Files). f.documents) (schema_files before c.args.name.now c.args.document)))
          (subst (IsIndexOf before) (sym c.in_ok-index.ensures) c.requires.index);
      names = λ keeps none. subst AreNamesSound (sym (schema_files before c.args.name.now c.args.document)) none;
    }
