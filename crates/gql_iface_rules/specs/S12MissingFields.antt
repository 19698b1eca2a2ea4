-- S12, Missing Fields: a type has no field for a field of an interface that it implements (GraphQL
-- 3.6, 3.7).
-- Reported at the interface's name in the list, about the missing field.
use Rattle.std.specs.Prelude.{List, [], flat_map, is_some, if◌then◌else◌}
use Rattle.gql_ast.specs.declared.fault.Fault.{Fault}
use Rattle.gql_ast.specs.declared.rule.Rule.TheVariants as rule
use Rattle.gql_ast.specs.declared.type_system.FieldDefinition.{FieldDefinition}
use Rattle.gql_built_in.specs.declared.sited.Sited.{Sited}
use Rattle.gql_faults.specs.Faults.{fault_at, place_of}
use Rattle.gql_iface_rules.specs.Implementing.{Implements, field_in, implementations}
use Rattle.gql_types.specs.declared.schema.Schema.{Schema}

-- the fault for a field of the interface, unless the type has a field of its name
abbrev pub missing_field : Implements → Sited FieldDefinition → List Fault
missing_field i f = if is_some (field_in i.of_type.fields f.node.name.text) then []
    else fault_at rule.S12 f.node.name.text (place_of i.name)

-- the faults for one interface that a type implements
abbrev pub missing_fields : Implements → List Fault
missing_fields i = flat_map (missing_field i) i.interface.fields

-- the faults by S12
abbrev pub faults : Schema → List Fault
faults s = flat_map missing_fields (implementations s)
