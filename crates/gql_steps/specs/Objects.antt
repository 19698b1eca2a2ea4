-- Helper definitions for contracts: what fields are executed with and on, as specifications see it.
use Rattle.std.specs.Borrow.{Bor}
use Rattle.gql_collect.specs.Contexts.{given}
use Rattle.serde_json.specs.View.{view}
use Rattle.serde_json.specs.declared.value.Value.{Value}
use Rattle.gql_steps.specs.Execution.{Object, stored}
use Rattle.gql_steps.specs.Plans.{Basis, FieldOf}
use Rattle.gql_steps.specs.declared.planning.DefinedField.{DefinedField}
use Rattle.gql_steps.specs.declared.setting.Setting.{Setting}

-- what fields are executed with
abbrev pub basis : Setting → Basis
basis s = record { given = given s.context; made = s.made.now }

-- an object of the data
abbrev pub object_of : Bor Value → Object
object_of v = stored (view v.now)

-- the field of objects of a type
abbrev pub field_in : DefinedField → FieldOf
field_in f = record { definition = f.definition.now; source = f.source }
