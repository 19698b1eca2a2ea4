use Rattle.std.proofs.Common.{◌∙◌, sym}
use Rattle.gql_inputs.specs.InputTypes.{is_open}
use Rattle.gql_types.specs.Schemas.{type_named}
use Rattle.gql_node_rules.proofs.Changes.{no_kind, object_kind}
use Rattle.gql_node_rules.proofs.directive_use.is_input_object.Goals as goal

pub returns-in-Some : goal.returns-in-Some
returns-in-Some c = c.is.ensures ∙ object_kind (is_open c.args.schema.now) (type_named c.args.schema.now c.args.name.now) c.in-Some.kind (sym c.kind.ensures ∙ c.in-Some.is)

pub returns-in-None : goal.returns-in-None
returns-in-None c = no_kind (is_open c.args.schema.now) (type_named c.args.schema.now c.args.name.now) (sym c.kind.ensures ∙ c.in-None.is)
