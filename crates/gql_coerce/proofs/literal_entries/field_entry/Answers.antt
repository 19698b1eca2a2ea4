use Rattle.std.proofs.Common.{◌∙◌, sym, map, rules}
use Rattle.gql_coerce.specs.Inputs.{literal_field}
use Rattle.gql_coerce.proofs.LiteralFields.{entry_is, entry_first}
use Rattle.gql_coerce.proofs.literal_entries.field_entry.Goals as goal

pub returns : goal.returns
returns c = λ vs. rw c.get.ensures (entry_is vs c.args.definition.now c.name-name.result.now c.args.fields.now c.first_value.result (search rules) c.first_value.ensures)
    ∙ sym (entry_first (map (literal_field vs) c.args.fields.now) c.args.definition.now)
