-- S05, Empty Types: a type that needs fields, enum values or members has none (GraphQL 3.6, 3.7,
-- 3.8, 3.9, 3.10).
-- Reported at the name in the first definition, about the name.
use Rattle.std.specs.Prelude.{List, [], Bool, false, ◌==◌, length, flat_map, if◌then◌else◌}
use Rattle.gql_ast.specs.declared.fault.Fault.{Fault}
use Rattle.gql_ast.specs.declared.rule.Rule.TheVariants as rule
use Rattle.gql_ast.specs.declared.type_system.TypeDefinition.{TypeDefinition}
use Rattle.gql_faults.specs.Faults.{fault_of, own_name_of}
use Rattle.gql_types.specs.declared.kind.TypeKind.{TypeKind}
use Rattle.gql_types.specs.declared.kind.TypeKind.TheVariants as kind
use Rattle.gql_types.specs.declared.schema.Schema.{Schema}
use Rattle.gql_types.specs.declared.schema_type.SchemaType.{SchemaType}

-- whether a type has none of the parts that its kind needs; a scalar needs none
abbrev pub is_empty : TypeKind → SchemaType → Bool
is_empty kind.Scalar t = false
is_empty kind.Object t = length t.fields == 0
is_empty kind.Interface t = length t.fields == 0
is_empty kind.Union t = length t.members == 0
is_empty kind.Enum t = length t.values == 0
is_empty kind.InputObject t = length t.input_fields == 0

-- the fault of a type
abbrev pub fault_of_type : SchemaType → List Fault
fault_of_type t = if is_empty t.kind t
    then fault_of rule.S05 (own_name_of (λ (d : TypeDefinition). d.name) t.definition) else []

-- the faults by S05
abbrev pub faults : Schema → List Fault
faults s = flat_map fault_of_type s.types
