use Rattle.std.proofs.Common.{◌∙◌, ap, map, arith}
use Rattle.std.proofs.lemmas.Grind.{common_steps}
use Rattle.gql_coerce.specs.Coercion.{are, defined_entry}
use Rattle.gql_coerce.specs.JsonEntries.{fields_in, first_unknown}
use Rattle.gql_coerce.proofs.JsonFields.{is_unknown, none_is_unknown}
use Rattle.gql_coerce.proofs.json_entries.entries_of_input.Goals as goal

pub returns-in-Some : goal.returns-in-Some
returns-in-Some c = is_unknown _ (first_unknown c.args.of_type.now.input_fields (fields_in c.args.members.now.entries)) c.in-Some.name.now (grind (arith, common_steps, c))

pub returns-in-None : goal.returns-in-None
returns-in-None c = ap are (ap (map (defined_entry (fields_in c.args.members.now.entries))) c.as_slice.ensures)
    ∙ none_is_unknown (are (map (defined_entry (fields_in c.args.members.now.entries)) c.args.of_type.now.input_fields)) (first_unknown c.args.of_type.now.input_fields (fields_in c.args.members.now.entries)) (grind (arith, common_steps, c))
