-- S18, Bad Default Values: a default value does not fit the type of its argument or input field
-- (this registry's own rule).
-- Reported at the start of the value, about the argument or field.
use Rattle.std.specs.Prelude.{ℕ, List, ◌++◌, Option, flat_map}
use Rattle.gql_ast.specs.declared.fault.Fault.{Fault}
use Rattle.gql_ast.specs.declared.literal.Literal.{Literal}
use Rattle.gql_ast.specs.declared.rule.Rule.TheVariants as rule
use Rattle.gql_ast.specs.declared.type_system.DirectiveDefinition.{DirectiveDefinition}
use Rattle.gql_ast.specs.declared.type_system.FieldDefinition.{FieldDefinition}
use Rattle.gql_ast.specs.declared.type_system.InputValueDefinition.{InputValueDefinition}
use Rattle.gql_built_in.specs.declared.sited.Sited.{Sited}
use Rattle.gql_faults.specs.Directives.{first_directives}
use Rattle.gql_faults.specs.Faults.{where_known}
use Rattle.gql_node_rules.specs.ValueFaults.{fault_unless_fit}
use Rattle.gql_types.specs.declared.schema.Schema.{Schema}
use Rattle.gql_types.specs.declared.schema_type.SchemaType.{SchemaType}

-- the fault of the default value of an argument or an input field in a file, if it has one
abbrev pub fault_of_default : Schema → Option (List ℕ) → InputValueDefinition → List Fault
fault_of_default s file v = where_known v.default (λ (x : Literal).
    fault_unless_fit rule.S18 s v (record { file = file; node = x }))

-- the fault of an input field
abbrev pub fault_of_input_field : Schema → Sited InputValueDefinition → List Fault
fault_of_input_field s v = fault_of_default s v.file v.node

-- the faults of the arguments of a field
abbrev pub faults_of_field : Schema → Sited FieldDefinition → List Fault
faults_of_field s f = flat_map (fault_of_default s f.file) f.node.arguments

-- the faults of the arguments of a directive
abbrev pub faults_of_directive : Schema → Sited DirectiveDefinition → List Fault
faults_of_directive s d = flat_map (fault_of_default s d.file) d.node.arguments

-- the faults of a type
abbrev pub faults_of_type : Schema → SchemaType → List Fault
faults_of_type s t = flat_map (fault_of_input_field s) t.input_fields
    ++ flat_map (faults_of_field s) t.fields

-- the faults by S18
abbrev pub faults : Schema → List Fault
faults s = flat_map (faults_of_type s) s.types
    ++ flat_map (faults_of_directive s) (first_directives s.directives)
