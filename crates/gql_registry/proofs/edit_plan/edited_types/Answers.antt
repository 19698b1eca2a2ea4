use Rattle.std.proofs.Common.{◌≡◌, ◌∙◌, ℕ, List, Option, ap, sym, subst, Some, None}
use Rattle.std.specs.Map.{keys_of}
use Rattle.std.specs.List.Sorted.{IsStrictlySortedBy}
use Rattle.std.specs.Option.{option_copied}
use Rattle.gql_ast.specs.FileMaps.{file_named, name_order}
use Rattle.gql_ast.specs.declared.definition.Document.{Document}
use Rattle.gql_ast.specs.declared.fault.FileSide.TheVariants.{Schema}
use Rattle.gql_ast.specs.declared.files.Files.{Files}
use Rattle.gql_types.specs.Edits.{edited_names}
use Rattle.gql_registry.specs.EditPlans.{IsSchemaEdit}
use Rattle.gql_registry.specs.Sides.{with_file}
use Rattle.gql_registry.proofs.Mapped.{ok_map}
use Rattle.gql_registry.proofs.PlannedFiles.{types_kept}
use Rattle.gql_registry.proofs.UndoneEdits.{schema_edit}
use Rattle.gql_registry.proofs.edit_plan.edited_types.Goals as goal

-- the names of such an edit
edit_of : (files : Files) (name : List ℕ) (after : Option Document) (names : List (List ℕ)) (before : Option Document) → before ≡ file_named files.schema name
    → IsSchemaEdit (edited_names (file_named files.schema name) after) files (with_file Schema files name after)
    → names ≡ edited_names before after → IsSchemaEdit names files (with_file Schema files name after)
edit_of files name after names before found edit is =
    subst (λ ns. IsSchemaEdit ns files (with_file Schema files name after)) (sym (is ∙ ap (λ o. edited_names o after) found)) edit

pub returns-in-Some : goal.returns-in-Some
returns-in-Some c =
    let files = c.args.files.now in
    let name = c.args.name.now in
    let after = option_copied c.args.after in
    let sorted : IsStrictlySortedBy name_order (keys_of files.schema) = subst (λ es. IsStrictlySortedBy name_order (keys_of es)) c.entries-in_order.ensures.files c.entries-in_order.ensures.ordered in
    let edit = schema_edit (types_kept c.put_schema_file.ensures c.remove_schema_file.ensures) files name after sorted in
    ok_map c.edited_names.result
    (λ (names : List (List ℕ)). names ≡ edited_names (Some c.get-in-Some.result.now) after)
    (λ (names : List (List ℕ)). IsSchemaEdit names files (with_file Schema files name after))
    (λ names is. edit_of files name after names (Some c.get-in-Some.result.now) (ap Some c.get-in-Some.ensures ∙ c.in-Some.ensures) edit is)
    c.edited_names.ensures

pub returns-in-None : goal.returns-in-None
returns-in-None c =
    let files = c.args.files.now in
    let name = c.args.name.now in
    let after = option_copied c.args.after in
    let sorted : IsStrictlySortedBy name_order (keys_of files.schema) = subst (λ es. IsStrictlySortedBy name_order (keys_of es)) c.entries-in_order.ensures.files c.entries-in_order.ensures.ordered in
    let edit = schema_edit (types_kept c.put_schema_file.ensures c.remove_schema_file.ensures) files name after sorted in
    ok_map c.edited_names-in-None.result
    (λ (names : List (List ℕ)). names ≡ edited_names None after)
    (λ (names : List (List ℕ)). IsSchemaEdit names files (with_file Schema files name after))
    (λ names is. edit_of files name after names None c.in-None.ensures edit is)
    c.edited_names-in-None.ensures
