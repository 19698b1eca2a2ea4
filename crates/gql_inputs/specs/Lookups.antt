-- What a name is as an input type (GraphQL specification, 3.4.2, 3.5, 3.9 and 3.10), by a schema or
-- by anything else that knows input types.
use Rattle.std.specs.Prelude.{◌&&◌, ℕ, List, [], Bool, not, map, filter, find, bytes_eq, is_some, Option, Some, None, option_and_then}
use Rattle.gql_ast.specs.declared.type_system.EnumValueDefinition.{EnumValueDefinition}
use Rattle.gql_ast.specs.declared.type_system.InputValueDefinition.{InputValueDefinition}
use Rattle.gql_built_in.specs.declared.sited.Sited.{Sited}
use Rattle.gql_types.specs.Schemas.{type_named}
use Rattle.gql_types.specs.Written.{Written, written}
use Rattle.gql_types.specs.declared.kind.TypeKind.{TypeKind}
use Rattle.gql_types.specs.declared.kind.TypeKind.TheVariants as kind
use Rattle.gql_types.specs.declared.schema.Schema.{Schema}
use Rattle.gql_types.specs.declared.schema_type.SchemaType.{SchemaType}
use Rattle.gql_inputs.specs.ExpectedTypes.{written_of}
use Rattle.gql_inputs.specs.InputTypes.{is_non_null, is_open, name_of, scalar_named}
use Rattle.gql_inputs.specs.declared.input_types.InputField.{InputField}
use Rattle.gql_inputs.specs.declared.input_types.InputKind.{InputKind}
use Rattle.gql_inputs.specs.declared.input_types.InputKind.TheVariants as input_kind
use Rattle.gql_inputs.specs.declared.of_schema.SchemaInputType.{SchemaInputType}
use Rattle.gql_inputs.specs.declared.of_schema.SchemaInputType.TheVariants as borrowed
use Rattle.gql_inputs.specs.declared.scalar.Scalar.{Scalar}

-- a field of an input object (3.10)
pub record FieldForm : Type 0 where
  pub name : List ℕ
  pub of_type : Written
  pub has_default : Bool

-- an input type: a scalar, an enum by the names of its values, or an input object by its fields
pub data InputForm : Type 0 where
  scalar : Scalar → InputForm
  enumeration : List (List ℕ) → InputForm
  input_object : List FieldForm → InputForm

-- what each name is as an input type, or nothing if it is not a known one
abbrev pub InputLookup : Type 0
InputLookup = List ℕ → Option InputForm

-- which of the three an input type is
abbrev pub kind_of : InputForm → InputKind
kind_of (scalar s) = input_kind.Scalar s
kind_of (enumeration values) = input_kind.Enum
kind_of (input_object fields) = input_kind.InputObject

-- the names of the values of an enum
abbrev pub values_in : InputForm → List (List ℕ)
values_in (scalar s) = []
values_in (enumeration values) = values
values_in (input_object fields) = []

-- the fields of an input object
abbrev pub fields_in : InputForm → List FieldForm
fields_in (scalar s) = []
fields_in (enumeration values) = []
fields_in (input_object fields) = fields

-- the first field of a name
abbrev pub field_named : List FieldForm → List ℕ → Option FieldForm
field_named fields name = find (λ (f : FieldForm). bytes_eq name f.name) fields

-- a field is required if its type is Non-Null and it has no default value (3.10)
abbrev pub is_required : FieldForm → Bool
is_required f = is_non_null f.of_type && not f.has_default

-- the fields of an input object that are required
abbrev pub required_in : InputForm → List FieldForm
required_in i = filter is_required (fields_in i)

-- a field, as Rust code has it
abbrev pub field_form : InputField → FieldForm
field_form f = record {
  name = f.name.now;
  of_type = written_of f.of_type;
  has_default = f.has_default;
}

-- ---- the input types of a schema

-- a field of an input object, by its definition
abbrev pub field_of : Sited InputValueDefinition → FieldForm
field_of d = record {
  name = d.node.name.text;
  of_type = written d.node.of_type;
  has_default = is_some d.node.default;
}

-- the names of the values of an enum, by their definitions
abbrev pub value_names : List (Sited EnumValueDefinition) → List (List ℕ)
value_names values = map (λ (v : Sited EnumValueDefinition). v.node.name.text) values

-- an input type that is borrowed from a schema
abbrev pub schema_form : SchemaInputType → InputForm
schema_form (borrowed.Scalar s) = scalar s
schema_form (borrowed.Enum values) = enumeration (value_names values.now)
schema_form (borrowed.InputObject fields) = input_object (map field_of fields.now)

-- A type as an input type, by its kind; an object, an interface or a union is none. `floats` says
-- whether scalars of schema files are open.
abbrev pub form_at : Bool → SchemaType → TypeKind → Option InputForm
form_at floats t kind.Scalar = Some (scalar (scalar_named floats (name_of t)))
form_at floats t kind.Enum = Some (enumeration (value_names t.values))
form_at floats t kind.InputObject = Some (input_object (map field_of t.input_fields))
form_at floats t kind.Object = None
form_at floats t kind.Interface = None
form_at floats t kind.Union = None

-- a type as an input type
abbrev pub form_of : Bool → SchemaType → Option InputForm
form_of floats t = form_at floats t t.kind

-- what each name is as an input type of a schema
abbrev pub in_schema : Schema → InputLookup
in_schema s name = option_and_then (form_of (is_open s)) (type_named s name)
