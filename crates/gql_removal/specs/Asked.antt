-- What is removed when a part of a schema is. With a field of an object go the fields of its interfaces
-- that demand it, and with an argument of the field those that demand the argument (GraphQL 3.6): without
-- them, what is left would be no schema.
use Rattle.std.specs.Prelude.{ℕ, List, ◌∷◌, Bool, Option, None, Some, find, map, option_and_then, option_map, bytes_eq, if◌then◌else◌}
use Rattle.std.specs.List.{list_any}
use Rattle.gql_ast.specs.declared.text.Name.{Name}
use Rattle.gql_ast.specs.declared.type_system.DirectiveDefinition.{DirectiveDefinition}
use Rattle.gql_ast.specs.declared.type_system.EnumValueDefinition.{EnumValueDefinition}
use Rattle.gql_ast.specs.declared.type_system.FieldDefinition.{FieldDefinition}
use Rattle.gql_ast.specs.declared.type_system.InputValueDefinition.{InputValueDefinition}
use Rattle.gql_built_in.specs.declared.sited.Sited.{Sited}
use Rattle.gql_removal.specs.declared.removal.Removal.{Removal}
use Rattle.gql_removal.specs.declared.removal.Removal.TheVariants as removal
use Rattle.gql_types.specs.Schemas.{directive_named, type_named}
use Rattle.gql_types.specs.declared.kind.TypeKind.{TypeKind}
use Rattle.gql_types.specs.declared.kind.TypeKind.TheVariants as kind
use Rattle.gql_types.specs.declared.schema.Schema.{Schema}
use Rattle.gql_types.specs.declared.schema_type.SchemaType.{SchemaType}
use Rattle.gql_removal.specs.declared.asked.Asked.{Asked}
use Rattle.gql_removal.specs.declared.asked.Part.{Part}
use Rattle.gql_removal.specs.declared.asked.Part.TheVariants as part
use Rattle.gql_removal.specs.declared.subject.Subject.{Subject}
use Rattle.gql_removal.specs.declared.subject.Subject.TheVariants as subject

-- a part of this kind, with its removal
abbrev pub asked : Part → Removal → Asked
asked p r = record { part = p; removal = r }

-- the name of a type
abbrev pub name_of : SchemaType → List ℕ
name_of t = t.definition.node.name.text

-- a type, and the interfaces that it implements
abbrev pub with_interfaces : SchemaType → List (List ℕ)
with_interfaces t = name_of t ∷ map (λ (i : Sited Name). i.node.text) t.interfaces

-- ---- members of types

-- the removal of a field of an object or an interface
abbrev pub field_removal : SchemaType → List ℕ → Removal
field_removal t name = removal.Field (with_interfaces t) name

-- the first field of this name of an object or an interface
abbrev pub field_of : SchemaType → List ℕ → Option (Sited FieldDefinition)
field_of t name = find (λ (f : Sited FieldDefinition). bytes_eq name f.node.name.text) t.fields

-- a field of an object or an interface, if it has such a field
abbrev pub field_asked : SchemaType → List ℕ → Option Asked
field_asked t name = option_map (λ _. asked part.Field (field_removal t name)) (field_of t name)

-- a field of an input object, if it has such a field
abbrev pub input_asked : SchemaType → List ℕ → Option Asked
input_asked t name = option_map
    (λ _. asked part.InputField (removal.InputField (name_of t) name))
    (find (λ (f : Sited InputValueDefinition). bytes_eq name f.node.name.text) t.input_fields)

-- a value of an enum, if it has such a value
abbrev pub value_asked : SchemaType → List ℕ → Option Asked
value_asked t name = option_map
    (λ _. asked part.EnumValue (removal.EnumValue (name_of t) name))
    (find (λ (v : Sited EnumValueDefinition). bytes_eq name v.node.name.text) t.values)

-- a member of a type of this kind, if it has such a member
abbrev pub member_asked : TypeKind → SchemaType → List ℕ → Option Asked
member_asked kind.Object t name = field_asked t name
member_asked kind.Interface t name = field_asked t name
member_asked kind.InputObject t name = input_asked t name
member_asked kind.Enum t name = value_asked t name
member_asked kind.Scalar t name = None
member_asked kind.Union t name = None

-- ---- arguments

-- whether one of these arguments has this name
abbrev pub has_argument : List InputValueDefinition → List ℕ → Bool
has_argument arguments name =
    list_any (λ (a : InputValueDefinition). bytes_eq name a.name.text) arguments

-- an argument of this field of a type, if the field has such an argument
abbrev pub argument_asked_of : SchemaType → List ℕ → FieldDefinition → Option Asked
argument_asked_of t name f = if has_argument f.arguments name
    then Some (asked part.Argument (removal.Argument (with_interfaces t) f.name.text name))
    else None

-- an argument of a field of a type, if there are both
abbrev pub argument_asked : List ℕ → List ℕ → SchemaType → Option Asked
argument_asked field name t = option_and_then
    (λ (f : Sited FieldDefinition). argument_asked_of t name f.node) (field_of t field)

-- an argument of a directive, if it has such an argument
abbrev pub directive_argument_of : List ℕ → List ℕ → Sited DirectiveDefinition → Option Asked
directive_argument_of directive name d = if has_argument d.node.arguments name
    then Some (asked part.DirectiveArgument (removal.DirectiveArgument directive name))
    else None

-- ---- the parts of a schema

-- a type, if the schema has it
abbrev pub type_asked : Schema → List ℕ → Option Asked
type_asked s name =
    option_map (λ _. asked part.«Type» (removal.«Type» name)) (type_named s name)

-- a directive, if the schema has it
abbrev pub directive_asked : Schema → List ℕ → Option Asked
directive_asked s name =
    option_map (λ _. asked part.Directive (removal.Directive name)) (directive_named s name)

-- an argument of a directive, if the schema has both
abbrev pub directive_argument_asked : Schema → List ℕ → List ℕ → Option Asked
directive_argument_asked s directive name =
    option_and_then (directive_argument_of directive name) (directive_named s directive)

-- the part of a schema that a subject names; none if the schema has no such part
abbrev pub removal_in : Schema → Subject → Option Asked
removal_in s (subject.«Type» name) = type_asked s name
removal_in s (subject.Member of_type name) =
    option_and_then (λ (t : SchemaType). member_asked t.kind t name) (type_named s of_type)
removal_in s (subject.Argument of_type field name) =
    option_and_then (argument_asked field name) (type_named s of_type)
removal_in s (subject.Directive name) = directive_asked s name
removal_in s (subject.DirectiveArgument directive name) =
    directive_argument_asked s directive name
