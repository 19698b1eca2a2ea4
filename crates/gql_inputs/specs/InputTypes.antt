-- What a type asks of an input (GraphQL specification, 3.5, 3.9 to 3.12).
use Rattle.std.specs.Prelude.{ℕ, List, ◌++◌, Bool, true, false, codes, bytes_eq, is_some, Option, Some, None, option_and_then, if◌then◌else◌}
use Rattle.gql_types.specs.Schemas.{type_named}
use Rattle.gql_types.specs.Written.{Written, named, listed, required}
use Rattle.gql_types.specs.declared.kind.TypeKind.{TypeKind}
use Rattle.gql_types.specs.declared.kind.TypeKind.TheVariants as kind
use Rattle.gql_types.specs.declared.schema.Schema.{Schema}
use Rattle.gql_types.specs.declared.schema_type.SchemaType.{SchemaType}
use Rattle.gql_inputs.specs.declared.scalar.Scalar.{Scalar}
use Rattle.gql_inputs.specs.declared.scalar.Scalar.TheVariants as scalar
pub use Rattle.gql_types.specs.RequiredInputs.{is_non_null}
pub use Rattle.gql_types.specs.Kinds.{is_input}

-- the scalar of a schema file: an open one takes every number (this registry's own rule)
abbrev pub custom_scalar : Bool → Scalar
custom_scalar floats = if floats then scalar.Open else scalar.Custom

-- The scalar of a name: one that is built in, or one of a schema file. `floats` says whether Float is
-- a type: then the scalars of schema files are open.
abbrev pub scalar_named : Bool → List ℕ → Scalar
scalar_named floats name = if bytes_eq name (codes "Int") then scalar.Int
    else if bytes_eq name (codes "String") then scalar.String
    else if bytes_eq name (codes "Boolean") then scalar.Boolean
    else if bytes_eq name (codes "ID") then scalar.Id
    else if bytes_eq name (codes "Float") then scalar.Float
    else custom_scalar floats

-- whether Float is a type of a schema
abbrev pub is_open : Schema → Bool
is_open s = is_some (type_named s (codes "Float"))

-- the scalar of a name in a schema
abbrev pub scalar_in : Schema → List ℕ → Scalar
scalar_in s name = scalar_named (is_open s) name

-- the name within lists and Non-Nulls
abbrev pub name_in : Written → List ℕ
name_in (named n) = n
name_in (listed t) = name_in t
name_in (required t) = name_in t

-- the type of each item of a list that is given for a type
abbrev pub item_of : Written → Option Written
item_of (named n) = None
item_of (listed t) = Some t
item_of (required t) = item_of t

-- a list, Non-Null or not
abbrev pub is_list : Written → Bool
is_list (named n) = false
is_list (listed t) = true
is_list (required t) = is_list t

-- the type of a single value within a type, where a Non-Null mark is right around that type or is
-- not
abbrev pub one_of_from : Bool → Written → Written
one_of_from marked (named n) = if marked then required (named n) else named n
one_of_from marked (listed t) = one_of_from false t
one_of_from marked (required t) = one_of_from true t

-- the type that is expected of a single value: where it would be made a list, the type of the item,
-- however many lists there are (3.11)
abbrev pub one_of : Written → Written
one_of = one_of_from false

-- a type as it is written, without anything ignored between its tokens
abbrev pub text_of : Written → List ℕ
text_of (named n) = n
text_of (listed t) = codes "[" ++ (text_of t ++ codes "]")
text_of (required t) = text_of t ++ codes "!"

-- a type, if it is an input type
abbrev pub if_input : SchemaType → Option SchemaType
if_input t = if is_input t.kind then Some t else None

-- the input type of the name within a type, if it is known
abbrev pub input_type : Schema → Written → Option SchemaType
input_type s of_type = option_and_then if_input (type_named s (name_in of_type))

-- the name of a type
abbrev pub name_of : SchemaType → List ℕ
name_of t = t.definition.node.name.text

-- a scalar of a schema file, not one that is built in
abbrev pub is_custom : Scalar → Bool
is_custom scalar.Custom = true
is_custom scalar.Open = true
is_custom scalar.Int = false
is_custom scalar.String = false
is_custom scalar.Boolean = false
is_custom scalar.Id = false
is_custom scalar.Float = false

-- a type with this name and of this kind is a scalar of a schema file, whether it is open or not
abbrev pub is_custom_at : List ℕ → TypeKind → Bool
is_custom_at name kind.Scalar = is_custom (scalar_named false name)
is_custom_at name kind.Enum = false
is_custom_at name kind.InputObject = false
is_custom_at name kind.Object = false
is_custom_at name kind.Interface = false
is_custom_at name kind.Union = false

-- a type that is a scalar of a schema file
abbrev pub is_custom_scalar : SchemaType → Bool
is_custom_scalar t = is_custom_at (name_of t) t.kind
