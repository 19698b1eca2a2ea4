use Rattle.std.proofs.Common.{◌∙◌, ap}
use Rattle.gql_node_rules.specs.Applied.{is_listed}
use Rattle.gql_node_rules.proofs.signature.Signature.lists.Goals as goal

pub returns : goal.returns
returns c = c.is_listed.ensures ∙ ap (is_listed c.args.location) c.as_slice.ensures.value ∙ c.args.self.now.all_locations c.args.location
