-- Helper definitions for private contracts: values that are written at once.
use Rattle.std.specs.Prelude.{◌≡◌, false, Some}
use Rattle.gql_inputs.specs.InputTypes.{is_list}
use Rattle.gql_inputs.specs.declared.scalar.Scalar.{Scalar}
use Rattle.gql_types.specs.Written.{Written}
use Rattle.serde_json.specs.Data as json
use Rattle.serde_json.specs.Data.{Data}
use Rattle.serde_json.specs.Find.{of_integer}
use Rattle.gql_steps.specs.Execution.{is_null}
use Rattle.gql_steps.specs.Leaves.{as_scalar}
use Rattle.gql_steps.specs.declared.direct.Direct.{Direct}
use Rattle.gql_steps.specs.declared.direct.Direct.TheVariants as direct
use Rattle.gql_steps.specs.declared.kinds.ValueKind.{ValueKind}
use Rattle.gql_steps.specs.declared.kinds.ValueKind.TheVariants as named

-- a value of a built-in scalar or null, as specifications see it
abbrev pub data_of : Direct → Data
data_of direct.Null = json.null
data_of (direct.Whole z) = json.number (of_integer z)
data_of (direct.Text t) = json.string t.now
data_of (direct.Truth b) = json.boolean b

-- in a place of the type t, whose name's values are of this kind, d is the value y of a scalar
pub record IsDirect (kind : ValueKind) (t : Written) (d y : Data) : Type 0 where
  pub scalar : Scalar
  pub kind_is : kind ≡ named.Scalar scalar
  pub not_list : is_list t ≡ false
  pub value : as_scalar scalar d ≡ Some y
  pub present : is_null d ≡ false
