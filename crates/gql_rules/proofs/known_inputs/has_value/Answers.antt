use Rattle.std.proofs.Common.{◌∙◌, bytes_eq}
use Rattle.gql_inputs.proofs.Finding.{is_found}
use Rattle.gql_rules.proofs.known_inputs.has_value.Goals as goal

pub returns : goal.returns
returns c = c.is_some.ensures
    ∙ is_found c.get.result (bytes_eq c.args.name.now) c.args.values.now c.get.ensures
