use Rattle.std.proofs.Common.{◌≡◌, ◌∙◌, ap, sym, subst, Some, None}
use Rattle.std.specs.Option.{option_copied}
use Rattle.gql_ast.specs.declared.fault.FileSide.TheVariants.{Documents}
use Rattle.gql_verdict.specs.DocumentEdits.{ChangesOnly, touched_by}
use Rattle.gql_verdict.specs.declared.touched.Touched.{Touched}
use Rattle.gql_registry.specs.Sides.{with_file}
use Rattle.gql_registry.proofs.Mapped.{ok_map}
use Rattle.gql_registry.proofs.PlannedFiles.{touched_alone}
use Rattle.gql_registry.proofs.edit_plan.touched_by.Goals as goal

pub returns-in-Some : goal.returns-in-Some
returns-in-Some c =
    let files = c.args.files.now in
    let name = c.args.name.now in
    let after = option_copied c.args.after in
    ok_map c.by_edit.result
    (λ (t : Touched). t ≡ touched_by name (Some c.get-in-Some.result.now) after)
    (λ (t : Touched). ChangesOnly t files (with_file Documents files name after))
    (λ t is. subst (λ u. ChangesOnly u files (with_file Documents files name after))
    (sym (is ∙ ap (λ o. touched_by name o after) (ap Some c.get-in-Some.ensures ∙ c.in-Some.ensures)))
    (touched_alone c.put_document.ensures c.remove_document.ensures files name after))
    c.by_edit.ensures

pub returns-in-None : goal.returns-in-None
returns-in-None c =
    let files = c.args.files.now in
    let name = c.args.name.now in
    let after = option_copied c.args.after in
    ok_map c.by_edit-in-None.result
    (λ (t : Touched). t ≡ touched_by name None after)
    (λ (t : Touched). ChangesOnly t files (with_file Documents files name after))
    (λ t is. subst (λ u. ChangesOnly u files (with_file Documents files name after))
    (sym (is ∙ ap (λ o. touched_by name o after) c.in-None.ensures))
    (touched_alone c.put_document.ensures c.remove_document.ensures files name after))
    c.by_edit-in-None.ensures
