use Rattle.std.proofs.Common.{◌≡◌, ◌∙◌, None, Some, ap, option_and_then, subst, sym}
use Rattle.std.specs.Prelude.{IfOk}
use Rattle.std.specs.Option.{option_copied}
use Rattle.gql_ast.specs.declared.type_system.SchemaDefinition.{SchemaDefinition}
use Rattle.gql_intro.specs.Made.{description_of, first_schema}
use Rattle.gql_intro.proofs.OutlinedSchemas.{same_first}
use Rattle.gql_intro.proofs.outlined.outlined_description.Goals as goal

pub returns-in-Some : goal.returns-in-Some
returns-in-Some c = λ files is.
    let first : first_schema files.schema ≡ Some c.in-Some.definition.now =
    sym (same_first files c.args.outline.now is) ∙ sym c.first_outlined.ensures ∙ ap option_copied c.in-Some.is in
    let text : description_of files.schema ≡ c.in-Some.definition.now.description = ap (option_and_then (λ (d : SchemaDefinition). d.description)) first in
    subst (λ t. IfOk c.copied.result (λ copy. copy ≡ t)) (sym text) c.copied.ensures

pub returns-in-None : goal.returns-in-None
returns-in-None c = λ files is.
    let first : first_schema files.schema ≡ None =
    sym (same_first files c.args.outline.now is) ∙ sym c.first_outlined.ensures ∙ ap option_copied c.in-None.is in
    sym (ap (option_and_then (λ (d : SchemaDefinition). d.description)) first)
