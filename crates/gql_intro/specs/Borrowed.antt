-- Nodes and answers of the code, which borrow a schema, as contracts see them.
use Rattle.std.specs.Prelude.{ℕ, List, Option, Some, map, option_and_then, option_copied, slice_get}
use Rattle.gql_ast.specs.LiteralTexts.{literal_text}
use Rattle.gql_ast.specs.declared.text.Name.{Name}
use Rattle.gql_ast.specs.declared.type_system.DirectiveDefinition.{DirectiveDefinition}
use Rattle.gql_ast.specs.declared.type_system.InputValueDefinition.{InputValueDefinition}
use Rattle.gql_built_in.specs.declared.sited.Sited.{Sited}
use Rattle.gql_types.specs.Written.{written}
use Rattle.gql_types.specs.declared.schema.Schema.{Schema}
use Rattle.gql_intro.specs.declared.answer.IntroAnswer.{IntroAnswer}
use Rattle.gql_intro.specs.declared.answer.IntroAnswer.TheVariants as a
use Rattle.gql_intro.specs.declared.answer.IntroArguments.{IntroArguments}
use Rattle.gql_intro.specs.declared.node.IntroNode.{IntroNode}
use Rattle.gql_intro.specs.declared.node.IntroNode.TheVariants as n
use Rattle.gql_intro.specs.declared.nodes.IntroNodes.{IntroNodes}
use Rattle.gql_intro.specs.declared.nodes.IntroNodes.TheVariants as ns
use Rattle.gql_intro.specs.Introspection.{Given, shown_field, shown_value, shown_input, location_name}
use Rattle.gql_intro.specs.Nodes.{Node, query_root, schema, named_type, list_type, non_null_type, field, input_value, enum_value, directive, Answer, null, text, truth, enum_name, enum_names, node, nodes_of, named_node}

-- a node of the code, as contracts see it
abbrev pub node_of : IntroNode → Node
node_of n.QueryRoot = query_root
node_of n.Schema = schema
node_of (n.Named t) = named_type t.now
node_of (n.List item) = list_type (written item.now)
node_of (n.NonNull nullable) = non_null_type (written nullable.now)
node_of (n.Field f) = field f.now
node_of (n.InputValue d) = input_value d.now
node_of (n.EnumValue v) = enum_value v.now
node_of (n.Directive d) = directive d.now

-- the elements of a list of nodes; an element may have no node, where nothing is listed
abbrev pub elements : Schema → IntroNodes → List (Option Node)
elements s (ns.Types names) = map (named_node s) names.now
elements s (ns.AllTypes names) = map (named_node s) names.now
elements s (ns.Interfaces names) =
    map (λ (i : Sited Name). named_node s i.node.text) names.now
elements s (ns.Fields fields deprecated) = map (shown_field deprecated) fields.now
elements s (ns.EnumValues values deprecated) = map (shown_value deprecated) values.now
elements s (ns.InputFields fields deprecated) =
    map (λ (d : Sited InputValueDefinition). shown_input deprecated d.node) fields.now
elements s (ns.Arguments arguments deprecated) = map (shown_input deprecated) arguments.now
elements s (ns.Directives directives) =
    map (λ (d : Sited DirectiveDefinition). Some (directive d.node)) directives.now

-- the node of the element at this index, if it has one
abbrev pub element_at : Schema → IntroNodes → ℕ → Option Node
element_at s list i = option_and_then (λ (e : Option Node). e) (slice_get (elements s list) i)

-- an answer of the code, as contracts see it
abbrev pub answer_of : Schema → IntroAnswer → Answer
answer_of s a.Null = null
answer_of s (a.Text t) = text t.now
answer_of s (a.Boolean b) = truth b
answer_of s (a.EnumValue name) = enum_name name.now
answer_of s (a.Literal literal) = text (literal_text literal.now)
answer_of s (a.Node x) = node (node_of x)
answer_of s (a.Nodes list) = nodes_of (elements s list)
answer_of s (a.Locations locations) = enum_names (map location_name locations.now)

-- the arguments of a field, as contracts see them
abbrev pub given_of : IntroArguments → Given
given_of arguments = record {
  name = option_copied arguments.name;
  include_deprecated = arguments.include_deprecated;
}
