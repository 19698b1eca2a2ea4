-- S06, Duplicate Fields: a type has two fields or two input fields of the same name (GraphQL 3.6,
-- 3.7, 3.10).
-- Reported at each field's name, about the name.
use Rattle.std.specs.Prelude.{List, ◌++◌, map, flat_map}
use Rattle.gql_ast.specs.declared.fault.Fault.{Fault}
use Rattle.gql_ast.specs.declared.rule.Rule.TheVariants as rule
use Rattle.gql_ast.specs.declared.type_system.FieldDefinition.{FieldDefinition}
use Rattle.gql_ast.specs.declared.type_system.InputValueDefinition.{InputValueDefinition}
use Rattle.gql_faults.specs.Faults.{own_name_of}
use Rattle.gql_faults.specs.Names.{repeated_faults}
use Rattle.gql_types.specs.declared.schema.Schema.{Schema}
use Rattle.gql_types.specs.declared.schema_type.SchemaType.{SchemaType}

-- the faults of a type
abbrev pub faults_of_type : SchemaType → List Fault
faults_of_type t =
    repeated_faults rule.S06 (map (own_name_of (λ (f : FieldDefinition). f.name)) t.fields)
    ++ repeated_faults rule.S06 (map (own_name_of
    (λ (v : InputValueDefinition). v.name)) t.input_fields)

-- the faults by S06
abbrev pub faults : Schema → List Fault
faults s = flat_map faults_of_type s.types
