-- What a scalar or an enum makes of a value without parts (GraphQL specification, 3.5 and 3.9).
use Rattle.std.specs.Prelude.{◌^◌, ◌&&◌, ℕ, ℤ, pos, neg_ℤ, int_le, int_lt, List, [], Bool, bytes_eq, find, is_some, Float, Option, Some, None, option_and_then, if◌then◌else◌}
use Rattle.std.specs.Fmt.{signed_decimal}
use Rattle.gql_ast.specs.declared.type_system.EnumValueDefinition.{EnumValueDefinition}
use Rattle.gql_built_in.specs.declared.sited.Sited.{Sited}
use Rattle.gql_inputs.specs.InputTypes.{custom_scalar, name_of, scalar_named}
use Rattle.gql_inputs.specs.declared.scalar.Scalar.{Scalar}
use Rattle.gql_inputs.specs.declared.scalar.Scalar.TheVariants as scalar
use Rattle.gql_types.specs.declared.kind.TypeKind.{TypeKind}
use Rattle.gql_types.specs.declared.kind.TypeKind.TheVariants as kind
use Rattle.gql_types.specs.declared.schema_type.SchemaType.{SchemaType}
use Rattle.serde_json.specs.Data as json
use Rattle.serde_json.specs.Data.{Data, Num}
use Rattle.serde_json.specs.Find.{of_float, of_integer}
use Rattle.gql_coerce.specs.declared.refusal.Reason.TheVariants as reason
use Rattle.gql_coerce.specs.Inputs.{Single, whole, out_of_range, fraction, text, json_text, truth, name}
use Rattle.gql_coerce.specs.Outcomes.{Reached, value, refused}

-- the refusal of an input of another kind than the type takes
abbrev pub wrong_kind : {A : Type 0} → Reached A
wrong_kind = refused reason.WrongKind []

-- the refusal of an integer with more bits than the type takes
abbrev pub past_range : {A : Type 0} → Reached A
past_range = refused reason.OutOfRange []

-- a number, if there is one
abbrev pub number_or_past : Option Num → Reached Data
number_or_past None = past_range
number_or_past (Some n) = value (json.number n)

-- a double, if it is finite
abbrev pub of_real : Option Float → Reached Data
of_real x = number_or_past (option_and_then of_float x)

-- whether an integer is from -2^31 to 2^31 - 1
abbrev pub is_of_32_bits : ℤ → Bool
is_of_32_bits z = int_le (neg_ℤ (pos (2 ^ 31))) z && int_lt z (pos (2 ^ 31))

-- an Int takes integers of 32 bits
abbrev pub as_int : Single → Reached Data
as_int (whole z) = if is_of_32_bits z then value (json.number (of_integer z)) else past_range
as_int (out_of_range x) = past_range
as_int (fraction x) = wrong_kind
as_int (text t) = wrong_kind
as_int (json_text t) = wrong_kind
as_int (truth b) = wrong_kind
as_int (name n) = wrong_kind

-- an ID takes strings, and integers of 64 bits as their text
abbrev pub as_id : Single → Reached Data
as_id (whole z) = value (json.string (signed_decimal z))
as_id (out_of_range x) = past_range
as_id (fraction x) = wrong_kind
as_id (text t) = value (json.string t)
as_id (json_text t) = value (json.string t)
as_id (truth b) = wrong_kind
as_id (name n) = wrong_kind

-- a String takes strings
abbrev pub as_string : Single → Reached Data
as_string (whole z) = wrong_kind
as_string (out_of_range x) = wrong_kind
as_string (fraction x) = wrong_kind
as_string (text t) = value (json.string t)
as_string (json_text t) = value (json.string t)
as_string (truth b) = wrong_kind
as_string (name n) = wrong_kind

-- a Boolean takes true and false
abbrev pub as_boolean : Single → Reached Data
as_boolean (whole z) = wrong_kind
as_boolean (out_of_range x) = wrong_kind
as_boolean (fraction x) = wrong_kind
as_boolean (text t) = wrong_kind
as_boolean (json_text t) = wrong_kind
as_boolean (truth b) = value (json.boolean b)
as_boolean (name n) = wrong_kind

-- a Float takes numbers: integers of 64 bits as they are, others as doubles
abbrev pub as_float : Single → Reached Data
as_float (whole z) = value (json.number (of_integer z))
as_float (out_of_range x) = of_real x
as_float (fraction x) = of_real x
as_float (text t) = wrong_kind
as_float (json_text t) = wrong_kind
as_float (truth b) = wrong_kind
as_float (name n) = wrong_kind

-- a custom scalar takes everything but numbers that are not integers of 64 bits; an enum literal
-- becomes its text
abbrev pub as_custom : Single → Reached Data
as_custom (whole z) = value (json.number (of_integer z))
as_custom (out_of_range x) = past_range
as_custom (fraction x) = wrong_kind
as_custom (text t) = value (json.string t)
as_custom (json_text t) = value (json.string t)
as_custom (truth b) = value (json.boolean b)
as_custom (name n) = value (json.string n)

-- an open scalar takes numbers as a Float does, and all else as a custom scalar does
abbrev pub as_open : Single → Reached Data
as_open (whole z) = value (json.number (of_integer z))
as_open (out_of_range x) = of_real x
as_open (fraction x) = of_real x
as_open (text t) = value (json.string t)
as_open (json_text t) = value (json.string t)
as_open (truth b) = value (json.boolean b)
as_open (name n) = value (json.string n)

-- what a scalar makes of a value without parts
abbrev pub as_scalar : Scalar → Single → Reached Data
as_scalar scalar.Int x = as_int x
as_scalar scalar.Id x = as_id x
as_scalar scalar.String x = as_string x
as_scalar scalar.Boolean x = as_boolean x
as_scalar scalar.Float x = as_float x
as_scalar scalar.Custom x = as_custom x
as_scalar scalar.Open x = as_open x

-- what a scalar of a schema file makes of a value without parts. `floats` says whether Float is a
-- type.
abbrev pub as_any : Bool → Single → Reached Data
as_any floats x = as_scalar (custom_scalar floats) x

-- whether an enum has a value of this name
abbrev pub is_value_of : SchemaType → List ℕ → Bool
is_value_of t n =
    is_some (find (λ (v : Sited EnumValueDefinition). bytes_eq n v.node.name.text) t.values)

-- what an enum makes of a name
abbrev pub of_enum : SchemaType → List ℕ → Reached Data
of_enum t n = if is_value_of t n then value (json.string n) else refused reason.NotInEnum []

-- an enum takes an enum literal, or a string of JSON, that is one of its values
abbrev pub as_enum : SchemaType → Single → Reached Data
as_enum t (whole z) = wrong_kind
as_enum t (out_of_range x) = wrong_kind
as_enum t (fraction x) = wrong_kind
as_enum t (text n) = wrong_kind
as_enum t (json_text n) = of_enum t n
as_enum t (truth b) = wrong_kind
as_enum t (name n) = of_enum t n

-- What a type of this kind makes of a value without parts. `floats` says whether Float is a type.
abbrev pub as_kind : Bool → SchemaType → TypeKind → Single → Reached Data
as_kind floats t kind.Scalar x = as_scalar (scalar_named floats (name_of t)) x
as_kind floats t kind.Enum x = as_enum t x
as_kind floats t kind.InputObject x = wrong_kind
as_kind floats t kind.Object x = wrong_kind
as_kind floats t kind.Interface x = wrong_kind
as_kind floats t kind.Union x = wrong_kind
