-- S14, Extra Required Arguments: a required argument is not one of the interface's field (GraphQL
-- 3.6, 3.7).
-- Reported at the argument's name, with the interface's field as the second place, about the
-- argument.
use Rattle.std.specs.Prelude.{List, [], ◌&&◌, Bool, not, is_some, flat_map, if◌then◌else◌}
use Rattle.gql_ast.specs.declared.fault.Fault.{Fault}
use Rattle.gql_ast.specs.declared.rule.Rule.TheVariants as rule
use Rattle.gql_ast.specs.declared.type_system.FieldDefinition.{FieldDefinition}
use Rattle.gql_ast.specs.declared.type_system.InputValueDefinition.{InputValueDefinition}
use Rattle.gql_built_in.specs.declared.sited.Sited.{Sited}
use Rattle.gql_faults.specs.Faults.{fault_between, own_name_of, place_of}
use Rattle.gql_faults.specs.TypeNames.{is_required}
use Rattle.gql_iface_rules.specs.Implementing.{FieldPair, arguments_of, argument_in, field_pairs}
use Rattle.gql_types.specs.declared.schema.Schema.{Schema}

-- whether an argument is required and none of these has its name
abbrev pub is_extra : List (Sited InputValueDefinition) → Sited InputValueDefinition → Bool
is_extra expected a = not (is_some (argument_in expected a.node.name.text)) && is_required a.node

-- the fault of an argument of the type's field, if it is required and the interface's field does
-- not have it
abbrev pub extra_required_argument : FieldPair → List (Sited InputValueDefinition)
    → Sited InputValueDefinition → List Fault
extra_required_argument p expected a = if is_extra expected a
    then fault_between rule.S14 a.node.name.text
    (place_of (own_name_of (λ (v : InputValueDefinition). v.name) a))
    (place_of (own_name_of (λ (f : FieldDefinition). f.name) p.expected)) else []

-- the faults of a field of the type, by the interface's field of that name
abbrev pub extra_required_arguments : FieldPair → List Fault
extra_required_arguments p =
    flat_map (extra_required_argument p (arguments_of p.expected)) (arguments_of p.own)

-- the faults by S14
abbrev pub faults : Schema → List Fault
faults s = flat_map extra_required_arguments (field_pairs s)
