use Rattle.std.proofs.Common.{◌∙◌, ap, map, option_map, arith}
use Rattle.std.proofs.lemmas.Grind.{common_steps}
use Rattle.serde_json.specs.View.{view}
use Rattle.gql_coerce.specs.Coercion.{are, defined_entry}
use Rattle.gql_coerce.specs.LiteralEntries.{fields_in}
use Rattle.gql_coerce.specs.Scopes.{values_in}
use Rattle.gql_coerce.proofs.LiteralFields.{is_unknown, none_is_unknown}
use Rattle.gql_coerce.proofs.literal_entries.entries_of_input.Goals as goal

pub returns-in-Some : goal.returns-in-Some
returns-in-Some c = is_unknown (values_in (option_map (λ v. view v.now) c.args.variables)) c.args.of_type.now.input_fields _ c.args.fields.now c.in-Some.name.now (grind (arith, common_steps, c))

pub returns-in_ok-found-in-None : goal.returns-in_ok-found-in-None
returns-in_ok-found-in-None c =
    let entries = defined_entry (fields_in (values_in (option_map (λ v. view v.now) c.args.variables)) c.args.fields.now) in
    ap are (c.in_ok-found-in-None.ensures ∙ ap (map entries) c.as_slice-definitions.ensures)
    ∙ none_is_unknown (values_in (option_map (λ v. view v.now) c.args.variables)) c.args.of_type.now.input_fields (are (map entries c.args.of_type.now.input_fields)) c.args.fields.now (grind (arith, common_steps, c))
