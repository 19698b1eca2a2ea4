use Rattle.std.proofs.Common.{◌∙◌, Option, ap, subst, sym}
use Rattle.gql_ast.specs.declared.definition.Document.{Document}
use Rattle.gql_ast.specs.declared.fault.FileSide.TheVariants.{Documents}
use Rattle.gql_ast.specs.declared.files.Files.{Files}
use Rattle.gql_registry.specs.EditPlans.{KeepsFragments}
use Rattle.gql_registry.specs.Keeping.{IsIndexOf, IsSideOf}
use Rattle.gql_registry.specs.Sides.{with_file}
use Rattle.gql_registry.proofs.PlannedFiles.{document_edited, document_files}
use Rattle.gql_registry.proofs.SameSchema.{same_schema}
use Rattle.gql_registry.proofs.edit_plan.document_plan.Goals as goal
use Rattle.gql_types.specs.Outlines.{edited_files}
use Rattle.gql_verdict.specs.DocumentEdits.{ChangesOnly}
use Rattle.gql_verdict.specs.NameViews.{KeepsNamesSound}

pub edited_index-requires-clause-files : goal.edited_index-requires-clause-files
edited_index-requires-clause-files c =
    c.in_ok-edit_file.ensures ∙ ap (λ (f : Files). edited_files f.documents c.args.name.now c.in_ok-shared.shared) c.in_ok-changed.ensures
    ∙ ap (edited_files c.args.files.now.documents c.args.name.now) (sym c.document_in-after.ensures)

pub edited_index-requires-clause-same : goal.edited_index-requires-clause-same
edited_index-requires-clause-same c =
    let before = c.args.files.now in
    let new = c.in_ok-edit_file.ensures ∙ ap (edited_files c.in_ok-changed.changed.documents c.args.name.now) c.in_ok-shared.ensures in
    let is = document_edited before c.in_ok-changed.changed c.args.name.now c.args.document _ c.in_ok-changed.ensures new in
    λ same. subst (λ (f : Files). KeepsFragments before f) (ap (with_file Documents before c.args.name.now) c.as_ref-3.ensures.value ∙ is) (c.in_ok-are_same.ensures.all same)

pub returns : goal.returns
returns c =
    let before = c.args.files.now in
    let name = c.args.name.now in
    let after = with_file Documents before name c.args.document in
    let new = c.in_ok-edit_file.ensures ∙ ap (edited_files c.in_ok-changed.changed.documents name) c.in_ok-shared.ensures in
    let is = document_edited before c.in_ok-changed.changed name c.args.document _ c.in_ok-changed.ensures new in
    let edited = document_files before name c.args.document in
    record {
      files = sym is;
      touched = subst (λ (o : Option Document). ChangesOnly c.in_ok-touched.touched before (with_file Documents before name o)) c.as_ref.ensures.value c.in_ok-touched.ensures;
      schema = same_schema before after c.in_ok-schema.schema (sym (ap (λ (f : Files). f.profile) edited)) (sym (ap (λ (f : Files). f.schema) edited))
          (subst (IsSideOf before) (sym c.in_ok-schema.ensures.cases) c.requires.schema);
      index = subst (λ (f : Files). IsIndexOf f c.in_ok-index.index) (sym is) c.in_ok-index.ensures;
      names = λ keeps. subst (λ (o : Option Document). KeepsNamesSound before (with_file Documents before name o)) c.as_ref-2.ensures.value (c.in_ok-keeps_names.ensures.sound keeps);
    }
