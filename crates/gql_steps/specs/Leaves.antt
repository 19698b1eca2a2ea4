-- The values of leaves in an answer (GraphQL 3.5, 3.9 and 6.4.3, CompleteValue).
use Rattle.std.specs.Prelude.{ℕ, ℤ, List, false, bytes_eq, Option, Some, None, option_map, option_and_then, if◌then◌else◌}
use Rattle.std.specs.Fmt.{signed_decimal}
use Rattle.std.specs.List.{list_any}
use Rattle.gql_inputs.specs.InputTypes.{scalar_named}
use Rattle.gql_inputs.specs.declared.scalar.Scalar.{Scalar}
use Rattle.gql_inputs.specs.declared.scalar.Scalar.TheVariants as scalar
use Rattle.serde_json.specs.Data as json
use Rattle.serde_json.specs.Data.{Data}
use Rattle.serde_json.specs.Find.{as_bool, as_i64, as_number, as_str, of_integer}
pub use Rattle.gql_coerce.specs.Scalars.{is_of_32_bits}

-- the integer that a value is, if it is one
abbrev pub whole_in : Data → Option ℤ
whole_in d = option_and_then as_i64 (as_number d)

-- an integer, if it has 32 bits
abbrev pub int_of : ℤ → Option Data
int_of z = if is_of_32_bits z then Some (json.number (of_integer z)) else None

-- an Int is an integer of 32 bits
abbrev pub as_int : Data → Option Data
as_int d = option_and_then int_of (whole_in d)

-- a string, or an integer as its text
abbrev pub id_of : Option (List ℕ) → Option ℤ → Option Data
id_of (Some s) whole = Some (json.string s)
id_of None (Some z) = Some (json.string (signed_decimal z))
id_of None None = None

-- an ID is a string, or an integer as its text
abbrev pub as_id : Data → Option Data
as_id d = id_of (as_str d) (whole_in d)

-- a String is a string
abbrev pub as_string : Data → Option Data
as_string d = option_map json.string (as_str d)

-- a Boolean is true or false
abbrev pub as_boolean : Data → Option Data
as_boolean d = option_map json.boolean (as_bool d)

-- a Float is a number, as it is
abbrev pub as_float : Data → Option Data
as_float (json.number n) = Some (json.number n)
as_float _ = None

-- a value of a scalar, if it is one; a scalar of a schema file takes any value
abbrev pub as_scalar : Scalar → Data → Option Data
as_scalar scalar.Int d = as_int d
as_scalar scalar.Id d = as_id d
as_scalar scalar.String d = as_string d
as_scalar scalar.Boolean d = as_boolean d
as_scalar scalar.Float d = as_float d
as_scalar scalar.Custom d = Some d
as_scalar scalar.Open d = Some d

-- a name, if it is one of these values
abbrev pub enum_of : List (List ℕ) → List ℕ → Option Data
enum_of names s = if list_any (bytes_eq s) names then Some (json.string s) else None

-- an enum is a string that is one of its values
abbrev pub as_enum : List (List ℕ) → Data → Option Data
as_enum names d = option_and_then (enum_of names) (as_str d)

-- a value of the scalar of this name; whether one of a schema file is open changes no result
abbrev pub scalar_value : List ℕ → Data → Option Data
scalar_value name d = as_scalar (scalar_named false name) d
