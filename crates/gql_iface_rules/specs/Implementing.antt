-- The interfaces that types implement, and the fields that both have (GraphQL 3.6 and 3.7,
-- IsValidImplementation).
use Rattle.std.specs.Prelude.{ℕ, List, [], ◌∷◌, flat_map, find, Option, Some, None, option_and_then, bytes_eq, if◌then◌else◌}
use Rattle.std.specs.Option.{option_map_or}
use Rattle.gql_ast.specs.declared.text.Name.{Name}
use Rattle.gql_ast.specs.declared.type_system.FieldDefinition.{FieldDefinition}
use Rattle.gql_ast.specs.declared.type_system.InputValueDefinition.{InputValueDefinition}
use Rattle.gql_built_in.specs.declared.sited.Sited.{Sited}
use Rattle.gql_types.specs.Kinds.{same_kind}
use Rattle.gql_types.specs.Parts.{sited}
use Rattle.gql_types.specs.Schemas.{type_named}
use Rattle.gql_types.specs.declared.kind.TypeKind.TheVariants as kind
use Rattle.gql_types.specs.declared.schema.Schema.{Schema}
use Rattle.gql_types.specs.declared.schema_type.SchemaType.{SchemaType}

-- a type, if it is an interface
abbrev pub as_interface : SchemaType → Option SchemaType
as_interface t = if same_kind t.kind kind.Interface then Some t else None

-- the interface of this name, if there is one
abbrev pub interface_named : Schema → List ℕ → Option SchemaType
interface_named s name = option_and_then as_interface (type_named s name)

-- a type, a name in its list of interfaces, and the interface of that name
pub record Implements : Type 0 where
  pub of_type : SchemaType
  pub name : Sited Name
  pub interface : SchemaType

-- a type and a name in its list of interfaces, if that is the name of an interface
abbrev pub implemented_by : Schema → SchemaType → Sited Name → List Implements
implemented_by s t n = option_map_or
    (λ (i : SchemaType). record { of_type = t; name = n; interface = i } ∷ [])
    (interface_named s n.node.text) []

-- a type with each interface that it implements, as often as it lists it
abbrev pub implementations_of : Schema → SchemaType → List Implements
implementations_of s t = flat_map (implemented_by s t) t.interfaces

-- all types with the interfaces that they implement
abbrev pub implementations : Schema → List Implements
implementations s = flat_map (implementations_of s) s.types

-- the first field of this name
abbrev pub field_in : List (Sited FieldDefinition) → List ℕ → Option (Sited FieldDefinition)
field_in fields name = find (λ (f : Sited FieldDefinition). bytes_eq name f.node.name.text) fields

-- a field of a type, and the field of the same name of an interface that the type implements
pub record FieldPair : Type 0 where
  pub own : Sited FieldDefinition
  pub expected : Sited FieldDefinition

-- a field of an interface with the type's field of that name, if it has one
abbrev pub paired : List (Sited FieldDefinition) → Sited FieldDefinition → List FieldPair
paired fields f = option_map_or
    (λ (own : Sited FieldDefinition). record { own = own; expected = f } ∷ [])
    (field_in fields f.node.name.text) []

-- the pairs of a type and an interface that it implements
abbrev pub pairs_of : Implements → List FieldPair
pairs_of i = flat_map (paired i.of_type.fields) i.interface.fields

-- the pairs of all types
abbrev pub field_pairs : Schema → List FieldPair
field_pairs s = flat_map pairs_of (implementations s)

-- the arguments of a field (3.6.1)
abbrev pub arguments_of : Sited FieldDefinition → List (Sited InputValueDefinition)
arguments_of f = sited f.file f.node.arguments

-- the first argument of this name
abbrev pub argument_in : List (Sited InputValueDefinition) → List ℕ
    → Option (Sited InputValueDefinition)
argument_in arguments name = find
    (λ (a : Sited InputValueDefinition). bytes_eq name a.node.name.text) arguments
