-- S15, Incompatible Field Types: a field's type is not covariant with the interface's (GraphQL 3.6,
-- 3.7).
-- Reported at the field's name, with the interface's field as the second place, about the field.
use Rattle.std.specs.Prelude.{List, [], Bool, true, false, flat_map, Option, Some, None, if◌then◌else◌}
use Rattle.gql_ast.specs.declared.fault.Fault.{Fault}
use Rattle.gql_ast.specs.declared.rule.Rule.TheVariants as rule
use Rattle.gql_ast.specs.declared.type_system.FieldDefinition.{FieldDefinition}
use Rattle.gql_faults.specs.Faults.{fault_between, own_name_of, place_of}
use Rattle.gql_iface_rules.specs.Implementing.{FieldPair, field_pairs}
use Rattle.gql_types.specs.Covariance.{covariant}
use Rattle.gql_types.specs.Written.{written}
use Rattle.gql_types.specs.declared.schema.Schema.{Schema}

-- whether an answer is no; `None` is an answer that depends on a name of no type
abbrev pub is_no : Option Bool → Bool
is_no (Some true) = false
is_no (Some false) = true
is_no None = false

-- the fault of a field of the type, if its type is not covariant with that of the interface's field
abbrev pub incompatible_field_type : Schema → FieldPair → List Fault
incompatible_field_type s p =
    if is_no (covariant s (written p.own.node.of_type) (written p.expected.node.of_type))
    then fault_between rule.S15 p.expected.node.name.text
    (place_of (own_name_of (λ (f : FieldDefinition). f.name) p.own))
    (place_of (own_name_of (λ (f : FieldDefinition). f.name) p.expected)) else []

-- the faults by S15
abbrev pub faults : Schema → List Fault
faults s = flat_map (incompatible_field_type s) (field_pairs s)
