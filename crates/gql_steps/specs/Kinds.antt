-- Helper definitions for private contracts: what the values of a named type are.
use Rattle.std.specs.Prelude.{ℕ, List, false, Option, Some}
use Rattle.gql_inputs.specs.InputTypes.{scalar_named}
use Rattle.gql_types.specs.Schemas.{kind_named}
use Rattle.gql_types.specs.declared.kind.TypeKind.{TypeKind}
use Rattle.gql_types.specs.declared.kind.TypeKind.TheVariants as kind
use Rattle.gql_types.specs.declared.schema.Schema.{Schema}
use Rattle.gql_steps.specs.declared.kinds.ValueKind.{ValueKind}
use Rattle.gql_steps.specs.declared.kinds.ValueKind.TheVariants as value

-- what the values of the type of this name are, which is of this kind; whether a scalar of a schema
-- file is open changes no result
abbrev pub kind_from : List ℕ → Option TypeKind → ValueKind
kind_from n (Some kind.Scalar) = value.Scalar (scalar_named false n)
kind_from n (Some kind.Enum) = value.Enum
kind_from n (Some kind.Object) = value.Object
kind_from n (Some kind.Interface) = value.Abstract
kind_from n (Some kind.Union) = value.Abstract
kind_from n _ = value.NoOutput

-- what the values of the type of this name are
abbrev pub kind_in : Schema → List ℕ → ValueKind
kind_in s n = kind_from n (kind_named s n)
