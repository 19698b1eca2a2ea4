-- S08, Duplicate Arguments: a field or a directive has two arguments of the same name (GraphQL
-- 3.6.1, 3.13).
-- Reported at each argument's name, about the name.
use Rattle.std.specs.Prelude.{ℕ, List, ◌++◌, map, flat_map, Option}
use Rattle.gql_ast.specs.declared.fault.Fault.{Fault}
use Rattle.gql_ast.specs.declared.rule.Rule.TheVariants as rule
use Rattle.gql_ast.specs.declared.text.Name.{Name}
use Rattle.gql_ast.specs.declared.type_system.DirectiveDefinition.{DirectiveDefinition}
use Rattle.gql_ast.specs.declared.type_system.FieldDefinition.{FieldDefinition}
use Rattle.gql_ast.specs.declared.type_system.InputValueDefinition.{InputValueDefinition}
use Rattle.gql_built_in.specs.declared.sited.Sited.{Sited}
use Rattle.gql_faults.specs.Directives.{first_directives}
use Rattle.gql_faults.specs.Names.{repeated_faults}
use Rattle.gql_types.specs.declared.schema.Schema.{Schema}
use Rattle.gql_types.specs.declared.schema_type.SchemaType.{SchemaType}

-- the names of arguments in a file
abbrev pub names_in : Option (List ℕ) → List InputValueDefinition → List (Sited Name)
names_in file arguments =
    map (λ (a : InputValueDefinition). record { file = file; node = a.name }) arguments

-- the faults of the arguments of one field or directive
abbrev pub faults_in : Option (List ℕ) → List InputValueDefinition → List Fault
faults_in file arguments = repeated_faults rule.S08 (names_in file arguments)

-- the faults of a field
abbrev pub faults_of_field : Sited FieldDefinition → List Fault
faults_of_field f = faults_in f.file f.node.arguments

-- the faults of the fields of a type
abbrev pub faults_of_type : SchemaType → List Fault
faults_of_type t = flat_map faults_of_field t.fields

-- the faults of a directive
abbrev pub faults_of_directive : Sited DirectiveDefinition → List Fault
faults_of_directive d = faults_in d.file d.node.arguments

-- the faults by S08
abbrev pub faults : Schema → List Fault
faults s = flat_map faults_of_type s.types
    ++ flat_map faults_of_directive (first_directives s.directives)
