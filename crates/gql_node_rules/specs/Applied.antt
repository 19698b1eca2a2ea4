-- The directives that are applied to nodes (GraphQL 2.12), with the location of their node (3.13).
use Rattle.std.specs.Prelude.{ℕ, List, [], ◌∷◌, ◌++◌, map, flat_map, take, Option, Bool}
use Rattle.std.specs.List.{list_any}
use denote.Enum.Bare.{sameb}
use Rattle.gql_text.specs.declared.place.Place.{Place}
use Rattle.gql_ast.specs.contracts.type_system.DirectiveLocation as location_type
use Rattle.gql_ast.specs.declared.literal.Directive.{Directive}
use Rattle.gql_ast.specs.declared.type_system.DirectiveLocation.{DirectiveLocation}
use Rattle.gql_ast.specs.declared.type_system.DirectiveLocation.TheVariants as location
use Rattle.gql_ast.specs.declared.type_system.TypeParts.{TypeParts}
use Rattle.gql_ast.specs.declared.type_system.TypeParts.TheVariants as parts
use Rattle.gql_ast.specs.declared.type_system.TypeDefinition.{TypeDefinition}
use Rattle.gql_ast.specs.declared.type_system.TypeExtension.{TypeExtension}
use Rattle.gql_ast.specs.declared.type_system.SchemaDefinition.{SchemaDefinition}
use Rattle.gql_ast.specs.declared.type_system.SchemaExtension.{SchemaExtension}
use Rattle.gql_ast.specs.declared.type_system.FieldDefinition.{FieldDefinition}
use Rattle.gql_ast.specs.declared.type_system.EnumValueDefinition.{EnumValueDefinition}
use Rattle.gql_ast.specs.declared.type_system.InputValueDefinition.{InputValueDefinition}
use Rattle.gql_built_in.specs.declared.sited.Sited.{Sited}
use Rattle.gql_types.specs.declared.schema_type.SchemaType.{SchemaType}
use Rattle.gql_node_rules.specs.Nodes.{AllNodes}

-- a node: its location, its file, and the directives on it
pub record Annotations : Type 0 where
  pub location : DirectiveLocation
  pub file : Option (List ℕ)
  pub directives : List Directive

-- an applied directive, with the location and the file of its node
pub record Application : Type 0 where
  pub location : DirectiveLocation
  pub file : Option (List ℕ)
  pub directive : Directive

-- the annotations of these nodes, which have one location
abbrev pub all_at : {A : Type 0} → DirectiveLocation → (A → List Directive) → List (Sited A)
    → List Annotations
all_at location directives nodes =
    map (λ n. record { location = location; file = n.file; directives = directives n.node }) nodes

-- the location of a type or of its extension
abbrev pub location_of : TypeParts → DirectiveLocation
location_of parts.Scalar = location.Scalar
location_of (parts.Object interfaces fields) = location.Object
location_of (parts.Interface interfaces fields) = location.Interface
location_of (parts.Union members) = location.Union
location_of (parts.Enum values) = location.Enum
location_of (parts.InputObject fields) = location.InputObject

-- the annotations of the definitions and extensions of the schema
abbrev pub annotated_schemas : AllNodes → List Annotations
annotated_schemas n = all_at location.Schema (λ (d : SchemaDefinition). d.directives) n.schemas
    ++ all_at location.Schema (λ (e : SchemaExtension). e.directives) n.schema_extensions

-- the annotations of definitions of types
abbrev pub types_at : List (Sited TypeDefinition) → List Annotations
types_at types = map (λ (d : Sited TypeDefinition).
    record { location = location_of d.node.parts; file = d.file; directives = d.node.directives })
    types

-- the annotations of extensions of types
abbrev pub type_extensions_at : List (Sited TypeExtension) → List Annotations
type_extensions_at extensions = map (λ (e : Sited TypeExtension).
    record { location = location_of e.node.parts; file = e.file; directives = e.node.directives })
    extensions

-- the annotations of all definitions and extensions of types
abbrev pub annotated_types : AllNodes → List Annotations
annotated_types n = types_at n.types ++ type_extensions_at n.type_extensions

-- the annotations of the parts of types and directives
abbrev pub annotated_parts : AllNodes → List Annotations
annotated_parts n = all_at location.FieldDefinition (λ (f : FieldDefinition). f.directives) n.fields
    ++ (all_at location.ArgumentDefinition (λ (a : InputValueDefinition). a.directives) n.arguments
    ++ (all_at location.InputFieldDefinition
    (λ (f : InputValueDefinition). f.directives) n.input_fields
    ++ all_at location.EnumValue (λ (v : EnumValueDefinition). v.directives) n.values))

-- the annotations of every node that may have directives
abbrev pub annotated : AllNodes → List Annotations
annotated n = annotated_schemas n ++ (annotated_types n ++ annotated_parts n)

-- the annotations of a type's first definition and of its extensions
abbrev pub type_and_extensions : SchemaType → List Annotations
type_and_extensions t = types_at (t.definition ∷ []) ++ type_extensions_at t.extensions

-- the annotations of the schema's first definition and of its extensions
abbrev pub schema_and_extensions : AllNodes → List Annotations
schema_and_extensions n = all_at location.Schema (λ (d : SchemaDefinition). d.directives)
    (take 1 n.schemas)
    ++ all_at location.Schema (λ (e : SchemaExtension). e.directives) n.schema_extensions

-- the directives on a node
abbrev pub applied_at : Annotations → List Application
applied_at n = map (λ (d : Directive).
    record { location = n.location; file = n.file; directive = d }) n.directives

-- the directives on all nodes
abbrev pub applied : AllNodes → List Application
applied n = flat_map applied_at (annotated n)

-- the place of an applied directive: that of its `@`
abbrev pub place_of : Application → Sited Place
place_of a = record { file = a.file; node = a.directive.place }

-- the name of an applied directive
abbrev pub name_of : Application → List ℕ
name_of a = a.directive.name.text

-- whether two locations are the same
unfoldable pub same_location : DirectiveLocation → DirectiveLocation → Bool
same_location = sameb location_type.the_type

-- whether a location is among these
abbrev pub is_listed : DirectiveLocation → List DirectiveLocation → Bool
is_listed location locations = list_any (same_location location) locations
