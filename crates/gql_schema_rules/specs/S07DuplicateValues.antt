-- S07, Duplicate Values: an enum has two values, or a union two members, of the same name (GraphQL
-- 3.8, 3.9).
-- Reported at each value's or member's name, about the name.
use Rattle.std.specs.Prelude.{List, ◌++◌, map, flat_map}
use Rattle.gql_ast.specs.declared.fault.Fault.{Fault}
use Rattle.gql_ast.specs.declared.rule.Rule.TheVariants as rule
use Rattle.gql_ast.specs.declared.type_system.EnumValueDefinition.{EnumValueDefinition}
use Rattle.gql_faults.specs.Faults.{own_name_of}
use Rattle.gql_faults.specs.Names.{repeated_faults}
use Rattle.gql_types.specs.declared.schema.Schema.{Schema}
use Rattle.gql_types.specs.declared.schema_type.SchemaType.{SchemaType}

-- the faults of a type
abbrev pub faults_of_type : SchemaType → List Fault
faults_of_type t =
    repeated_faults rule.S07 (map (own_name_of (λ (v : EnumValueDefinition). v.name)) t.values)
    ++ repeated_faults rule.S07 t.members

-- the faults by S07
abbrev pub faults : Schema → List Fault
faults s = flat_map faults_of_type s.types
