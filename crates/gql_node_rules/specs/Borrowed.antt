-- Helper definitions for private contracts: nodes that Rust code borrows, as specifications see
-- them.
use Rattle.std.specs.Option.{option_copied}
use Rattle.std.specs.Prelude.{Some, map}
use Rattle.gql_ast.specs.declared.literal.Literal.{Literal}
use Rattle.gql_built_in.specs.declared.sited.Sited.{Sited}
use Rattle.gql_node_rules.specs.Applied.{Annotations, Application}
use Rattle.gql_node_rules.specs.Nodes.{AllNodes}
use Rattle.gql_node_rules.specs.declared.applied.Annotated.{Annotated}
use Rattle.gql_node_rules.specs.declared.applied.Applied.{Applied}
use Rattle.gql_node_rules.specs.declared.node.Node.{Node}
use Rattle.gql_node_rules.specs.declared.nodes.Nodes.{Nodes}
use Rattle.gql_node_rules.specs.declared.value_faults.ValuePlace.{ValuePlace}

-- a borrowed node and its file
abbrev pub one : {A : Type 0} → Node A → Sited A
one n = record { file = Some n.file.now; node = n.node.now }

-- all borrowed nodes
abbrev pub lists : Nodes → AllNodes
lists n = record {
  types = map one n.types.items;
  type_extensions = map one n.type_extensions.items;
  directives = map one n.directives.items;
  schemas = map one n.schemas.items;
  schema_extensions = map one n.schema_extensions.items;
  parts = map one n.parts.items;
  fields = map one n.fields.items;
  values = map one n.values.items;
  input_fields = map one n.input_fields.items;
  arguments = map one n.arguments.items;
}

-- a borrowed node with its directives
abbrev pub annotations : Annotated → Annotations
annotations a =
    record { location = a.location; file = option_copied a.file; directives = a.directives.now }

-- one borrowed directive
abbrev pub application : Applied → Application
application a =
    record { location = a.location; file = option_copied a.file; directive = a.directive.now }

-- a borrowed value and its file
abbrev pub value : ValuePlace → Sited Literal
value v = record { file = option_copied v.file; node = v.value.now }
