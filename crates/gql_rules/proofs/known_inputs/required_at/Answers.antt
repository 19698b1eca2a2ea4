use Rattle.std.proofs.Common.{◌∙◌, Some, ap, sym}
use Rattle.gql_inputs.proofs.RequiredFields.{required_at_of, required_count_of}
use Rattle.gql_rules.specs.KnownInputs.{field_of}
use Rattle.gql_rules.proofs.Requiring.{required_fact, same_required}
use Rattle.gql_rules.proofs.known_inputs.required_at.Goals as goal

pub required_at-requires : goal.required_at-requires
required_at-requires c = rw (sym (required_count_of field_of required_fact same_required c.args.fields.now)) c.requires

pub returns : goal.returns
returns c = required_at_of field_of required_fact same_required c.args.fields.now c.args.index _ c.required_at.ensures
    ∙ ap Some (sym c.input_field.ensures)
