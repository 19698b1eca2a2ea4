-- The schema of all schema files, and its look-ups by name (GraphQL specification, 3.3 and 3.4).
use Rattle.std.specs.Prelude.{ℕ, List, Option, Some, None, option_map, option_and_then, find, bytes_eq}
use Rattle.gql_ast.specs.declared.definition.Tree.{Tree}
use Rattle.gql_ast.specs.declared.files.Files.{Files}
use Rattle.gql_ast.specs.declared.executable.OperationKind.{OperationKind}
use Rattle.gql_ast.specs.declared.type_system.DirectiveDefinition.{DirectiveDefinition}
use Rattle.gql_ast.specs.declared.type_system.FieldDefinition.{FieldDefinition}
use Rattle.gql_ast.specs.declared.type_system.EnumValueDefinition.{EnumValueDefinition}
use Rattle.gql_ast.specs.declared.type_system.InputValueDefinition.{InputValueDefinition}
use Rattle.gql_types.specs.Applied.{append_in}
use Rattle.gql_types.specs.Definitions.{definitions, type_definitions, type_extensions, directive_definitions, schema_definitions, schema_extensions}
use Rattle.gql_types.specs.Kinds.{same_operation}
use Rattle.gql_types.specs.Types.{types_of}
use Rattle.gql_types.specs.Roots.{roots_of}
use Rattle.gql_types.specs.Possible.{all_possible}
use Rattle.gql_types.specs.declared.kind.TypeKind.{TypeKind}
use Rattle.gql_types.specs.declared.kind.TypeKind.TheVariants as kind
use Rattle.gql_types.specs.declared.possible.PossibleTypes.{PossibleTypes}
use Rattle.gql_types.specs.declared.roots.Root.{Root}
use Rattle.gql_types.specs.declared.schema.Schema.{Schema}
use Rattle.gql_types.specs.declared.schema_type.SchemaType.{SchemaType}
use Rattle.gql_built_in.specs.declared.sited.Sited.{Sited}

-- the types of these definitions
abbrev pub types_in : List (Sited Tree) → List SchemaType
types_in ds = types_of (type_definitions ds) (type_extensions ds)

-- the root operation types of these definitions
abbrev pub roots_in : List (Sited Tree) → List SchemaType → List Root
roots_in ds types = roots_of types (schema_definitions ds) (schema_extensions ds)

-- the schema of these definitions
abbrev pub schema_in : List (Sited Tree) → Schema
schema_in ds = record {
  types = types_in ds;
  directives = directive_definitions ds;
  roots = roots_in ds (types_in ds);
  possible = all_possible (types_in ds);
}

-- the schema of all schema files
abbrev pub schema_of : Files → Schema
schema_of files = schema_in (definitions files)

-- the type of this name
abbrev pub type_named : Schema → List ℕ → Option SchemaType
type_named s name = find (λ (t : SchemaType). bytes_eq name t.definition.node.name.text) s.types

-- the kind of the type of this name
abbrev pub kind_named : Schema → List ℕ → Option TypeKind
kind_named s name = option_map (λ (t : SchemaType). t.kind) (type_named s name)

-- the first field of this name of an object or an interface
abbrev pub field_named : Schema → List ℕ → List ℕ → Option (Sited FieldDefinition)
field_named s of_type name = option_and_then
    (λ (t : SchemaType).
    find (λ (f : Sited FieldDefinition). bytes_eq name f.node.name.text) t.fields)
    (type_named s of_type)

-- the name of the list to which the field of this name of a type appends, if `@append` is on it
abbrev pub append_of : Schema → List ℕ → List ℕ → Option (List ℕ)
append_of s of_type name = option_and_then
    (λ (f : Sited FieldDefinition). append_in f.node.directives) (field_named s of_type name)

-- the possible types of the composite type of this name
abbrev pub possible_named : Schema → List ℕ → Option (List (List ℕ))
possible_named s name = option_map (λ (p : PossibleTypes). p.types)
    (find (λ (p : PossibleTypes). bytes_eq name p.of_type) s.possible)

-- the fields of a type, if it is an input object
abbrev pub inputs_by : TypeKind → SchemaType → Option (List (Sited InputValueDefinition))
inputs_by kind.InputObject t = Some t.input_fields
inputs_by kind.Scalar t = None
inputs_by kind.Object t = None
inputs_by kind.Interface t = None
inputs_by kind.Union t = None
inputs_by kind.Enum t = None

-- the fields of the input object of this name
abbrev pub input_named : Schema → List ℕ → Option (List (Sited InputValueDefinition))
input_named s name = option_and_then (λ (t : SchemaType). inputs_by t.kind t) (type_named s name)

-- the values of a type, if it is an enum
abbrev pub values_by : TypeKind → SchemaType → Option (List (Sited EnumValueDefinition))
values_by kind.Enum t = Some t.values
values_by kind.Scalar t = None
values_by kind.Object t = None
values_by kind.Interface t = None
values_by kind.Union t = None
values_by kind.InputObject t = None

-- the values of the enum of this name
abbrev pub enum_named : Schema → List ℕ → Option (List (Sited EnumValueDefinition))
enum_named s name = option_and_then (λ (t : SchemaType). values_by t.kind t) (type_named s name)

-- the first directive of this name
abbrev pub directive_named : Schema → List ℕ → Option (Sited DirectiveDefinition)
directive_named s name =
    find (λ (d : Sited DirectiveDefinition). bytes_eq name d.node.name.text) s.directives

-- the first root operation type of a kind
abbrev pub root_of : Schema → OperationKind → Option Root
root_of s kind = find (λ (r : Root). same_operation kind r.kind) s.roots
