use Rattle.std.proofs.Common.{◌∙◌, sym}
use Rattle.gql_node_rules.proofs.Changes.{same_is}
use Rattle.gql_node_rules.proofs.same_input.is_same_type.Goals as goal

pub is_same_form-requires-clause-kind : goal.is_same_form-requires-clause-kind
is_same_form-requires-clause-kind c = same_is c.args.of_type.now.kind c.args.other.now.kind (sym c.is.ensures ∙ c.if-is.true)
