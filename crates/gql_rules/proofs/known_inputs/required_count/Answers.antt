use Rattle.std.proofs.Common.{◌∙◌, sym}
use Rattle.gql_inputs.proofs.RequiredFields.{required_count_of}
use Rattle.gql_rules.specs.KnownInputs.{field_of}
use Rattle.gql_rules.proofs.Requiring.{required_fact, same_required}
use Rattle.gql_rules.proofs.known_inputs.required_count.Goals as goal

pub returns : goal.returns
returns c = c.required_count.ensures ∙ sym (required_count_of field_of required_fact same_required c.args.fields.now)
