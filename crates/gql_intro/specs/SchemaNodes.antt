-- The nodes of a schema: those of its definitions, and of the types that these are written with.
use Rattle.std.specs.Prelude.{◌≡◌, ℕ, List, [], ◌∷◌, true, is_some, Contains, map, ⊤}
use Rattle.gql_ast.specs.declared.type_system.DirectiveDefinition.{DirectiveDefinition}
use Rattle.gql_ast.specs.declared.type_system.EnumValueDefinition.{EnumValueDefinition}
use Rattle.gql_ast.specs.declared.type_system.FieldDefinition.{FieldDefinition}
use Rattle.gql_ast.specs.declared.type_system.InputValueDefinition.{InputValueDefinition}
use Rattle.gql_built_in.specs.declared.sited.Sited.{Sited}
use Rattle.gql_types.specs.Schemas.{type_named}
use Rattle.gql_types.specs.Written.{Written}
use Rattle.gql_types.specs.declared.schema.Schema.{Schema}
use Rattle.gql_types.specs.declared.schema_type.SchemaType.{SchemaType}
use Rattle.gql_intro.specs.Nodes.{Node, query_root, schema, named_type, list_type, non_null_type, field, input_value, enum_value, directive, Answer, null, text, truth, enum_name, enum_names, node, nodes}
use Rattle.gql_intro.specs.References.{name_in}

-- these definitions, without their files
abbrev pub without_files : {A : Type 0} → List (Sited A) → List A
without_files definitions = map (λ d. d.node) definitions

-- the schema has a type of this name
abbrev pub HasTypeNamed : Schema → List ℕ → Type 0
HasTypeNamed s name = is_some (type_named s name) ≡ true

-- the schema has the type that is named in this one
abbrev pub IsKnown : Schema → Written → Type 0
IsKnown s t = HasTypeNamed s (name_in t)

-- a field of a type of the schema
abbrev pub IsFieldOf : Schema → FieldDefinition → Type 0
IsFieldOf s f = (t : SchemaType) × Contains s.types t × Contains (without_files t.fields) f

-- an argument or an input field of the schema
pub data IsInputOf (s : Schema) (d : InputValueDefinition) : Type 0 where
  -- an argument of a field
  of_field : (f : FieldDefinition) → IsFieldOf s f → Contains f.arguments d → IsInputOf s d
  -- an argument of a directive
  of_directive : (x : DirectiveDefinition) → Contains (without_files s.directives) x
      → Contains x.arguments d → IsInputOf s d
  -- a field of an input object
  of_input_object : (t : SchemaType) → Contains s.types t
      → Contains (without_files t.input_fields) d → IsInputOf s d

-- a value of an enum of the schema
abbrev pub IsValueOf : Schema → EnumValueDefinition → Type 0
IsValueOf s v = (t : SchemaType) × Contains s.types t × Contains (without_files t.values) v

-- a node of the schema
abbrev pub IsNodeOf : Schema → Node → Type 0
IsNodeOf s query_root = ⊤
IsNodeOf s schema = ⊤
IsNodeOf s (named_type t) = Contains s.types t
IsNodeOf s (list_type item) = IsKnown s item
IsNodeOf s (non_null_type nullable) = IsKnown s nullable
IsNodeOf s (field f) = IsFieldOf s f
IsNodeOf s (input_value d) = IsInputOf s d
IsNodeOf s (enum_value v) = IsValueOf s v
IsNodeOf s (directive d) = Contains (without_files s.directives) d

-- the nodes of an answer
abbrev pub nodes_in : Answer → List Node
nodes_in null = []
nodes_in (text t) = []
nodes_in (truth b) = []
nodes_in (enum_name name) = []
nodes_in (enum_names names) = []
nodes_in (node n) = n ∷ []
nodes_in (nodes ns) = ns

-- each node of an answer is one of the schema
abbrev pub AreNodesOf : Schema → Answer → Type 0
AreNodesOf s a = (n : Node) → Contains (nodes_in a) n → IsNodeOf s n
