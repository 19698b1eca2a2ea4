-- The nodes of introspection (GraphQL 4.2), and what their fields resolve to.
use Rattle.std.specs.Prelude.{ℕ, List, [], ◌∷◌, Bool, Option, Some, None, flat_map, option_map, option_to_list, bytes_eq, if◌then◌else◌}
use Rattle.std.specs.Option.{option_map_or}
use Rattle.gql_ast.specs.declared.type_system.DirectiveDefinition.{DirectiveDefinition}
use Rattle.gql_ast.specs.declared.type_system.EnumValueDefinition.{EnumValueDefinition}
use Rattle.gql_ast.specs.declared.type_system.FieldDefinition.{FieldDefinition}
use Rattle.gql_ast.specs.declared.type_system.InputValueDefinition.{InputValueDefinition}
use Rattle.gql_types.specs.Schemas.{type_named}
use Rattle.gql_types.specs.Written as written
use Rattle.gql_types.specs.Written.{Written}
use Rattle.gql_types.specs.declared.schema.Schema.{Schema}
use Rattle.gql_types.specs.declared.schema_type.SchemaType.{SchemaType}

-- a node of introspection
pub data Node : Type 0 where
  -- the query root, with its fields `__schema` and `__type`
  query_root : Node
  -- __Schema
  schema : Node
  -- __Type: a type of the schema
  named_type : SchemaType → Node
  -- __Type: the list type of these items
  list_type : Written → Node
  -- __Type: the Non-Null type of this nullable type
  non_null_type : Written → Node
  -- __Field
  field : FieldDefinition → Node
  -- __InputValue
  input_value : InputValueDefinition → Node
  -- __EnumValue
  enum_value : EnumValueDefinition → Node
  -- __Directive
  directive : DirectiveDefinition → Node

-- what a field of a node resolves to
pub data Answer : Type 0 where
  null : Answer
  text : List ℕ → Answer
  truth : Bool → Answer
  -- the name of a value of an enum
  enum_name : List ℕ → Answer
  enum_names : List (List ℕ) → Answer
  node : Node → Answer
  nodes : List Node → Answer

-- ---- fields by their names

-- a field of a node: its name, and what it resolves to
abbrev pub Row : Type 0
Row = List ℕ × Answer

-- what the field of this name resolves to, if there is one
abbrev pub answer_in : List Row → List ℕ → Option Answer
answer_in [] name = None
answer_in (row ∷ rows) name = if bytes_eq name row.0 then Some row.1 else answer_in rows name

-- ---- answers

-- a text, or null
abbrev pub optional_text : Option (List ℕ) → Answer
optional_text t = option_map_or text t null

-- a node, or null
abbrev pub optional_node : Option Node → Answer
optional_node n = option_map_or node n null

-- a list of the nodes that are there
abbrev pub nodes_of : List (Option Node) → Answer
nodes_of found = nodes (flat_map option_to_list found)

-- ---- types

-- the type of this name, if the schema has one
abbrev pub named_node : Schema → List ℕ → Option Node
named_node s name = option_map named_type (type_named s name)

-- the type that is written in this way, if the schema has it
abbrev pub type_node : Schema → Written → Option Node
type_node s (written.named name) = named_node s name
type_node s (written.listed item) = Some (list_type item)
type_node s (written.required nullable) = Some (non_null_type nullable)
