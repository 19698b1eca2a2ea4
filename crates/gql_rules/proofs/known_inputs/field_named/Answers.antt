use Rattle.std.proofs.Common.{◌∙◌, Some, bytes_eq, ap, sym, option_map}
use Rattle.gql_inputs.specs.Lookups.{FieldForm}
use Rattle.gql_inputs.proofs.Finding.{find_made}
use Rattle.gql_rules.specs.KnownInputs.{field_of}
use Rattle.gql_rules.proofs.known_inputs.field_named.Goals as goal

pub returns-in-Some : goal.returns-in-Some
returns-in-Some c = ap Some c.input_field.ensures
    ∙ (ap (option_map field_of) c.in-Some.ensures
    ∙ sym (find_made field_of (λ (f : FieldForm). bytes_eq c.args.name.now f.name) c.args.fields.now))

pub returns-in-None : goal.returns-in-None
returns-in-None c = ap (option_map field_of) c.in-None.ensures
    ∙ sym (find_made field_of (λ (f : FieldForm). bytes_eq c.args.name.now f.name) c.args.fields.now)
