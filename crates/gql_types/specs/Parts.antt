-- The parts of the definition of a type or of an extension (GraphQL specification, 3.4).
use Rattle.std.specs.Prelude.{ℕ, List, [], map, flat_map, Option}
use Rattle.gql_ast.specs.declared.text.Name.{Name}
use Rattle.gql_ast.specs.declared.type_system.TypeParts.{TypeParts}
use Rattle.gql_ast.specs.declared.type_system.TypeParts.TheVariants as parts
use Rattle.gql_ast.specs.declared.type_system.FieldDefinition.{FieldDefinition}
use Rattle.gql_ast.specs.declared.type_system.EnumValueDefinition.{EnumValueDefinition}
use Rattle.gql_ast.specs.declared.type_system.InputValueDefinition.{InputValueDefinition}
use Rattle.gql_built_in.specs.declared.sited.Sited.{Sited}
use Rattle.gql_types.specs.declared.kind.TypeKind.{TypeKind}
use Rattle.gql_types.specs.declared.kind.TypeKind.TheVariants as kind

-- the kind of a type (3.4)
abbrev pub kind_of : TypeParts → TypeKind
kind_of parts.Scalar = kind.Scalar
kind_of (parts.Object interfaces fields) = kind.Object
kind_of (parts.Interface interfaces fields) = kind.Interface
kind_of (parts.Union members) = kind.Union
kind_of (parts.Enum values) = kind.Enum
kind_of (parts.InputObject fields) = kind.InputObject

-- the interfaces that an object or an interface implements (3.6, 3.7)
abbrev pub interfaces_of : TypeParts → List Name
interfaces_of (parts.Object interfaces fields) = interfaces
interfaces_of (parts.Interface interfaces fields) = interfaces
interfaces_of parts.Scalar = []
interfaces_of (parts.Union members) = []
interfaces_of (parts.Enum values) = []
interfaces_of (parts.InputObject fields) = []

-- the fields of an object or an interface (3.6, 3.7)
abbrev pub fields_of : TypeParts → List FieldDefinition
fields_of (parts.Object interfaces fields) = fields
fields_of (parts.Interface interfaces fields) = fields
fields_of parts.Scalar = []
fields_of (parts.Union members) = []
fields_of (parts.Enum values) = []
fields_of (parts.InputObject fields) = []

-- the members of a union (3.8)
abbrev pub members_of : TypeParts → List Name
members_of (parts.Union members) = members
members_of parts.Scalar = []
members_of (parts.Object interfaces fields) = []
members_of (parts.Interface interfaces fields) = []
members_of (parts.Enum values) = []
members_of (parts.InputObject fields) = []

-- the values of an enum (3.9)
abbrev pub values_of : TypeParts → List EnumValueDefinition
values_of (parts.Enum values) = values
values_of parts.Scalar = []
values_of (parts.Object interfaces fields) = []
values_of (parts.Interface interfaces fields) = []
values_of (parts.Union members) = []
values_of (parts.InputObject fields) = []

-- the fields of an input object (3.10)
abbrev pub input_fields_of : TypeParts → List InputValueDefinition
input_fields_of (parts.InputObject fields) = fields
input_fields_of parts.Scalar = []
input_fields_of (parts.Object interfaces fields) = []
input_fields_of (parts.Interface interfaces fields) = []
input_fields_of (parts.Union members) = []
input_fields_of (parts.Enum values) = []

-- these nodes, each with this file
abbrev pub sited : {A : Type 0} → Option (List ℕ) → List A → List (Sited A)
sited file nodes = map (λ n. record { file = file; node = n }) nodes

-- the nodes of one form in all of these parts, in their order
abbrev pub in_all : {A : Type 0} → (TypeParts → List A) → List (Sited TypeParts) → List (Sited A)
in_all held ps = flat_map (λ (p : Sited TypeParts). sited p.file (held p.node)) ps
