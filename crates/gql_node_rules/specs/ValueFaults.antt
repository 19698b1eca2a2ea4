-- A value that does not fit the type of its argument or input field (GraphQL 5.6): a fault at the
-- start of the value, about the name of the argument or the input field.
use Rattle.std.specs.Prelude.{List, [], if◌then◌else◌}
use Rattle.gql_text.specs.declared.place.Place.{Place}
use Rattle.gql_ast.specs.declared.fault.Fault.{Fault}
use Rattle.gql_ast.specs.declared.literal.Literal.{Literal}
use Rattle.gql_ast.specs.declared.rule.Rule.{Rule}
use Rattle.gql_ast.specs.declared.type_system.InputValueDefinition.{InputValueDefinition}
use Rattle.gql_built_in.specs.declared.sited.Sited.{Sited}
use Rattle.gql_inputs.specs.BadValues.{fits}
use Rattle.gql_inputs.specs.Values.{place_of, value_of}
use Rattle.gql_faults.specs.Faults.{fault_at}
use Rattle.gql_types.specs.Written.{written}
use Rattle.gql_types.specs.declared.schema.Schema.{Schema}

-- where a value starts
abbrev pub start_of : Sited Literal → Sited Place
start_of x = record { file = x.file; node = place_of (value_of x.node) }

-- the fault of a value by this rule, unless it fits the type of its argument or input field
abbrev pub fault_unless_fit : Rule → Schema → InputValueDefinition → Sited Literal → List Fault
fault_unless_fit rule s v x = if fits s x.node (written v.of_type) then []
    else fault_at rule v.name.text (start_of x)
