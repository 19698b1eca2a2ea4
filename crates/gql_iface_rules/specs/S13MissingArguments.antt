-- S13, Missing Arguments: an argument of the interface's field is missing, or its type differs
-- (GraphQL 3.6, 3.7).
-- Reported at the field's name, with the interface's field as the second place, about the argument.
use Rattle.std.specs.Prelude.{List, [], Bool, false, flat_map, bytes_eq, if◌then◌else◌}
use Rattle.std.specs.Option.{option_map_or}
use Rattle.gql_ast.specs.declared.fault.Fault.{Fault}
use Rattle.gql_ast.specs.declared.rule.Rule.TheVariants as rule
use Rattle.gql_ast.specs.declared.type_system.FieldDefinition.{FieldDefinition}
use Rattle.gql_ast.specs.declared.type_system.InputValueDefinition.{InputValueDefinition}
use Rattle.gql_built_in.specs.declared.sited.Sited.{Sited}
use Rattle.gql_faults.specs.Faults.{fault_between, own_name_of, place_of}
use Rattle.gql_iface_rules.specs.Implementing.{FieldPair, arguments_of, argument_in, field_pairs}
use Rattle.gql_types.specs.Written.{Written, named, listed, required, written}
use Rattle.gql_types.specs.declared.schema.Schema.{Schema}

-- whether two types are written the same
abbrev pub is_same_type : Written → Written → Bool
is_same_type (named n) (named m) = bytes_eq n m
is_same_type (named n) (listed t) = false
is_same_type (named n) (required t) = false
is_same_type (listed t) (listed u) = is_same_type t u
is_same_type (listed t) (named n) = false
is_same_type (listed t) (required u) = false
is_same_type (required t) (required u) = is_same_type t u
is_same_type (required t) (named n) = false
is_same_type (required t) (listed u) = false

-- whether a field with these arguments has the argument, by name and type; of arguments of one
-- name, the first counts
abbrev pub has_argument : List (Sited InputValueDefinition) → Sited InputValueDefinition → Bool
has_argument own a = option_map_or
    (λ (b : Sited InputValueDefinition). is_same_type (written b.node.of_type)
    (written a.node.of_type))
    (argument_in own a.node.name.text) false

-- the fault for an argument of the interface's field, unless the type's field has it
abbrev pub missing_argument : FieldPair → List (Sited InputValueDefinition)
    → Sited InputValueDefinition → List Fault
missing_argument p own a = if has_argument own a then []
    else fault_between rule.S13 a.node.name.text
    (place_of (own_name_of (λ (f : FieldDefinition). f.name) p.own))
    (place_of (own_name_of (λ (f : FieldDefinition). f.name) p.expected))

-- the faults of a field of the type, by the interface's field of that name
abbrev pub missing_arguments : FieldPair → List Fault
missing_arguments p = flat_map (missing_argument p (arguments_of p.own)) (arguments_of p.expected)

-- the faults by S13
abbrev pub faults : Schema → List Fault
faults s = flat_map missing_arguments (field_pairs s)
