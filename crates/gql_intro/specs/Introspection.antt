-- What each field of each type of introspection resolves to (GraphQL 4.2), and `__typename` (4.1).
use Rattle.std.specs.Prelude.{◌&&◌, ℕ, List, [], ◌∷◌, Bool, false, not, Option, Some, None, codes, map, option_and_then, unwrap_or, if◌then◌else◌}
use Rattle.std.specs.Option.{option_map_or}
use Rattle.gql_ast.specs.LiteralTexts.{literal_text}
use Rattle.gql_ast.specs.declared.executable.OperationKind.{OperationKind}
use Rattle.gql_ast.specs.declared.executable.OperationKind.TheVariants as operation
use Rattle.gql_ast.specs.declared.literal.Literal.{Literal}
use Rattle.gql_ast.specs.declared.text.Name.{Name}
use Rattle.gql_ast.specs.declared.type_system.DirectiveDefinition.{DirectiveDefinition}
use Rattle.gql_ast.specs.declared.type_system.DirectiveLocation.{DirectiveLocation}
use Rattle.gql_ast.specs.declared.type_system.DirectiveLocation.TheVariants as location
use Rattle.gql_ast.specs.declared.type_system.EnumValueDefinition.{EnumValueDefinition}
use Rattle.gql_ast.specs.declared.type_system.FieldDefinition.{FieldDefinition}
use Rattle.gql_ast.specs.declared.type_system.InputValueDefinition.{InputValueDefinition}
use Rattle.gql_built_in.specs.declared.sited.Sited.{Sited}
use Rattle.gql_types.specs.Schemas.{possible_named, root_of}
use Rattle.gql_types.specs.Written.{Written, written}
use Rattle.gql_types.specs.declared.kind.TypeKind.{TypeKind}
use Rattle.gql_types.specs.declared.kind.TypeKind.TheVariants as kind
use Rattle.gql_types.specs.declared.roots.Root.{Root}
use Rattle.gql_types.specs.declared.schema.Schema.{Schema}
use Rattle.gql_types.specs.declared.schema_type.SchemaType.{SchemaType}
use Rattle.gql_intro.specs.declared.made.IntroSchema.{IntroSchema}
use Rattle.gql_intro.specs.Applied.{is_deprecated, deprecation_reason, specified_by_url}
use Rattle.gql_intro.specs.Made.{is_shown}
use Rattle.gql_intro.specs.Nodes.{Node, query_root, schema, named_type, list_type, non_null_type, field, input_value, enum_value, directive, Answer, null, text, truth, enum_name, enum_names, node, Row, answer_in, optional_text, optional_node, nodes_of, named_node, type_node}

-- The arguments of a field: `name` of `__type`, and `includeDeprecated` of `fields`, `enumValues`,
-- `inputFields` and `args`. `None`: it is null or not given.
pub record Given : Type 0 where
  pub name : Option (List ℕ)
  pub include_deprecated : Option Bool

-- whether deprecated elements are included; null counts as false
abbrev pub includes_deprecated : Given → Bool
includes_deprecated given = unwrap_or given.include_deprecated false

-- ---- the query root (4.2)

-- the root operation type of a kind of operations
abbrev pub root_node : Schema → OperationKind → Option Node
root_node s kind = option_and_then (λ (r : Root). named_node s r.name.node.text) (root_of s kind)

-- the name of the query root
abbrev pub root_name : Schema → Option (List ℕ)
root_name s = option_map_or (λ (r : Root). Some r.name.node.text) (root_of s operation.Query) None

-- the type of this name, if introspection shows it
abbrev pub type_called : Schema → IntroSchema → List ℕ → Option Node
type_called s i name = if is_shown i.has_int i.has_id i.has_float name then named_node s name else None

-- the fields of the query root that introspection adds
abbrev pub root_rows : Schema → IntroSchema → Given → List Row
root_rows s i given =
    (codes "__typename", optional_text (root_name s))
    ∷ (codes "__schema", node schema)
    ∷ (codes "__type", optional_node (option_and_then (type_called s i) given.name))
    ∷ []

-- ---- __Schema (4.2.1)

-- the fields of __Schema
abbrev pub schema_rows : Schema → IntroSchema → List Row
schema_rows s i =
    (codes "__typename", text (codes "__Schema"))
    ∷ (codes "description", optional_text i.description)
    ∷ (codes "types", nodes_of (map (named_node s) i.types))
    ∷ (codes "queryType", optional_node (root_node s operation.Query))
    ∷ (codes "mutationType", optional_node (root_node s operation.Mutation))
    ∷ (codes "subscriptionType", optional_node (root_node s operation.Subscription))
    ∷ (
      codes "directives",
      nodes_of (map (λ (d : Sited DirectiveDefinition). Some (directive d.node)) s.directives),
    )
    ∷ []

-- ---- __Type (4.2.2)

-- the value of __TypeKind for a kind
abbrev pub kind_name : TypeKind → List ℕ
kind_name kind.Scalar = codes "SCALAR"
kind_name kind.Object = codes "OBJECT"
kind_name kind.Interface = codes "INTERFACE"
kind_name kind.Union = codes "UNION"
kind_name kind.Enum = codes "ENUM"
kind_name kind.InputObject = codes "INPUT_OBJECT"

-- a field, unless it is deprecated and deprecated ones are not included
abbrev pub shown_field : Bool → Sited FieldDefinition → Option Node
shown_field deprecated f =
    if not deprecated && is_deprecated f.node.directives then None else Some (field f.node)

-- an enum value, unless it is deprecated and deprecated ones are not included
abbrev pub shown_value : Bool → Sited EnumValueDefinition → Option Node
shown_value deprecated v =
    if not deprecated && is_deprecated v.node.directives then None else Some (enum_value v.node)

-- an argument or an input field, unless it is deprecated and deprecated ones are not included
abbrev pub shown_input : Bool → InputValueDefinition → Option Node
shown_input deprecated d =
    if not deprecated && is_deprecated d.directives then None else Some (input_value d)

-- `args`: the arguments of a field or a directive
abbrev pub arguments_of : Bool → List InputValueDefinition → Answer
arguments_of deprecated arguments = nodes_of (map (shown_input deprecated) arguments)

-- `fields`: those of an object or an interface, else null
abbrev pub fields_of : TypeKind → Bool → SchemaType → Answer
fields_of kind.Object deprecated t = nodes_of (map (shown_field deprecated) t.fields)
fields_of kind.Interface deprecated t = nodes_of (map (shown_field deprecated) t.fields)
fields_of kind.Scalar deprecated t = null
fields_of kind.Union deprecated t = null
fields_of kind.Enum deprecated t = null
fields_of kind.InputObject deprecated t = null

-- `interfaces`: those that an object or an interface implements, else null
abbrev pub interfaces_of : TypeKind → Schema → SchemaType → Answer
interfaces_of kind.Object s t =
    nodes_of (map (λ (i : Sited Name). named_node s i.node.text) t.interfaces)
interfaces_of kind.Interface s t =
    nodes_of (map (λ (i : Sited Name). named_node s i.node.text) t.interfaces)
interfaces_of kind.Scalar s t = null
interfaces_of kind.Union s t = null
interfaces_of kind.Enum s t = null
interfaces_of kind.InputObject s t = null

-- the possible types of a type, in the order of their names' bytes
abbrev pub possible_nodes : Schema → SchemaType → Answer
possible_nodes s t = option_map_or (λ (names : List (List ℕ)). nodes_of (map (named_node s) names))
    (possible_named s t.definition.node.name.text) null

-- `possibleTypes`: those of an interface or a union, else null
abbrev pub possible_of : TypeKind → Schema → SchemaType → Answer
possible_of kind.Interface s t = possible_nodes s t
possible_of kind.Union s t = possible_nodes s t
possible_of kind.Scalar s t = null
possible_of kind.Object s t = null
possible_of kind.Enum s t = null
possible_of kind.InputObject s t = null

-- `enumValues`: those of an enum, else null
abbrev pub values_of : TypeKind → Bool → SchemaType → Answer
values_of kind.Enum deprecated t = nodes_of (map (shown_value deprecated) t.values)
values_of kind.Scalar deprecated t = null
values_of kind.Object deprecated t = null
values_of kind.Interface deprecated t = null
values_of kind.Union deprecated t = null
values_of kind.InputObject deprecated t = null

-- `inputFields`: those of an input object, else null
abbrev pub inputs_of : TypeKind → Bool → SchemaType → Answer
inputs_of kind.InputObject deprecated t = nodes_of
    (map (λ (d : Sited InputValueDefinition). shown_input deprecated d.node) t.input_fields)
inputs_of kind.Scalar deprecated t = null
inputs_of kind.Object deprecated t = null
inputs_of kind.Interface deprecated t = null
inputs_of kind.Union deprecated t = null
inputs_of kind.Enum deprecated t = null

-- the fields of __Type that depend on the kind of the type
abbrev pub part_rows : Schema → SchemaType → Bool → List Row
part_rows s t deprecated =
    (codes "fields", fields_of t.kind deprecated t)
    ∷ (codes "interfaces", interfaces_of t.kind s t)
    ∷ (codes "possibleTypes", possible_of t.kind s t)
    ∷ (codes "enumValues", values_of t.kind deprecated t)
    ∷ (codes "inputFields", inputs_of t.kind deprecated t)
    ∷ []

-- the fields of __Type, for a type of the schema
abbrev pub type_rows : Schema → SchemaType → Bool → List Row
type_rows s t deprecated =
    (codes "__typename", text (codes "__Type"))
    ∷ (codes "kind", enum_name (kind_name t.kind))
    ∷ (codes "name", text t.definition.node.name.text)
    ∷ (codes "description", optional_text t.definition.node.description)
    ∷ (codes "ofType", null)
    ∷ (codes "specifiedByURL", optional_text (specified_by_url t))
    ∷ part_rows s t deprecated

-- the fields of __Type, for a list or a Non-Null type of another type
abbrev pub wrapper_rows : Schema → List ℕ → Written → List Row
wrapper_rows s its_kind of_type =
    (codes "__typename", text (codes "__Type"))
    ∷ (codes "kind", enum_name its_kind)
    ∷ (codes "name", null)
    ∷ (codes "description", null)
    ∷ (codes "fields", null)
    ∷ (codes "interfaces", null)
    ∷ (codes "possibleTypes", null)
    ∷ (codes "enumValues", null)
    ∷ (codes "inputFields", null)
    ∷ (codes "ofType", optional_node (type_node s of_type))
    ∷ (codes "specifiedByURL", null)
    ∷ []

-- ---- __Field (4.2.3)

-- the fields of __Field
abbrev pub field_rows : Schema → FieldDefinition → Bool → List Row
field_rows s f deprecated =
    (codes "__typename", text (codes "__Field"))
    ∷ (codes "name", text f.name.text)
    ∷ (codes "description", optional_text f.description)
    ∷ (codes "args", arguments_of deprecated f.arguments)
    ∷ (codes "type", optional_node (type_node s (written f.of_type)))
    ∷ (codes "isDeprecated", truth (is_deprecated f.directives))
    ∷ (codes "deprecationReason", optional_text (deprecation_reason f.directives))
    ∷ []

-- ---- __InputValue (4.2.4; `isDeprecated` and `deprecationReason` are of editions after October
-- 2021, and so is `includeDeprecated` of `inputFields` and `args`)

-- `defaultValue`: the text of a default value, or null
abbrev pub default_text : Option Literal → Answer
default_text d = option_map_or (λ (x : Literal). text (literal_text x)) d null

-- the fields of __InputValue
abbrev pub input_rows : Schema → InputValueDefinition → List Row
input_rows s d =
    (codes "__typename", text (codes "__InputValue"))
    ∷ (codes "name", text d.name.text)
    ∷ (codes "description", optional_text d.description)
    ∷ (codes "type", optional_node (type_node s (written d.of_type)))
    ∷ (codes "defaultValue", default_text d.default)
    ∷ (codes "isDeprecated", truth (is_deprecated d.directives))
    ∷ (codes "deprecationReason", optional_text (deprecation_reason d.directives))
    ∷ []

-- ---- __EnumValue (4.2.5)

-- the fields of __EnumValue
abbrev pub value_rows : EnumValueDefinition → List Row
value_rows v =
    (codes "__typename", text (codes "__EnumValue"))
    ∷ (codes "name", text v.name.text)
    ∷ (codes "description", optional_text v.description)
    ∷ (codes "isDeprecated", truth (is_deprecated v.directives))
    ∷ (codes "deprecationReason", optional_text (deprecation_reason v.directives))
    ∷ []

-- ---- __Directive (4.2.6)

-- the value of __DirectiveLocation for a location
abbrev pub location_name : DirectiveLocation → List ℕ
location_name location.Query = codes "QUERY"
location_name location.Mutation = codes "MUTATION"
location_name location.Subscription = codes "SUBSCRIPTION"
location_name location.Field = codes "FIELD"
location_name location.FragmentDefinition = codes "FRAGMENT_DEFINITION"
location_name location.FragmentSpread = codes "FRAGMENT_SPREAD"
location_name location.InlineFragment = codes "INLINE_FRAGMENT"
location_name location.VariableDefinition = codes "VARIABLE_DEFINITION"
location_name location.Schema = codes "SCHEMA"
location_name location.Scalar = codes "SCALAR"
location_name location.Object = codes "OBJECT"
location_name location.FieldDefinition = codes "FIELD_DEFINITION"
location_name location.ArgumentDefinition = codes "ARGUMENT_DEFINITION"
location_name location.Interface = codes "INTERFACE"
location_name location.Union = codes "UNION"
location_name location.Enum = codes "ENUM"
location_name location.EnumValue = codes "ENUM_VALUE"
location_name location.InputObject = codes "INPUT_OBJECT"
location_name location.InputFieldDefinition = codes "INPUT_FIELD_DEFINITION"

-- the fields of __Directive
abbrev pub directive_rows : DirectiveDefinition → Bool → List Row
directive_rows d deprecated =
    (codes "__typename", text (codes "__Directive"))
    ∷ (codes "name", text d.name.text)
    ∷ (codes "description", optional_text d.description)
    ∷ (codes "locations", enum_names (map location_name d.locations))
    ∷ (codes "args", arguments_of deprecated d.arguments)
    ∷ (codes "isRepeatable", truth d.is_repeatable)
    ∷ []

-- ---- all nodes

-- the fields of a node, each with what it resolves to
abbrev pub rows : Schema → IntroSchema → Given → Node → List Row
rows s i given query_root = root_rows s i given
rows s i given schema = schema_rows s i
rows s i given (named_type t) = type_rows s t (includes_deprecated given)
rows s i given (list_type item) = wrapper_rows s (codes "LIST") item
rows s i given (non_null_type nullable) = wrapper_rows s (codes "NON_NULL") nullable
rows s i given (field f) = field_rows s f (includes_deprecated given)
rows s i given (input_value d) = input_rows s d
rows s i given (enum_value v) = value_rows v
rows s i given (directive d) = directive_rows d (includes_deprecated given)

-- what the field of this name of a node resolves to; `None` if the node has no such field
abbrev pub resolve : Schema → IntroSchema → Given → Node → List ℕ → Option Answer
resolve s i given n name = answer_in (rows s i given n) name
