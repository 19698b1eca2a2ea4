-- The faults by the rules of this crate, in groups. Public contracts cite `type_faults` alone; the
-- others are helper definitions for private contracts.
use Rattle.std.specs.Prelude.{List, ◌++◌, flat_map}
use Rattle.gql_ast.specs.declared.fault.Fault.{Fault}
use Rattle.gql_ast.specs.declared.files.Files.{Files}
use Rattle.gql_node_rules.specs.Nodes.{AllNodes}
use Rattle.gql_faults.specs.Directives.{first_directives}
use Rattle.gql_types.specs.declared.schema.Schema.{Schema}
use Rattle.gql_types.specs.declared.schema_type.SchemaType.{SchemaType}
use Rattle.gql_schema_rules.specs.P02SubscriptionRoots as p02
use Rattle.gql_schema_rules.specs.S01DuplicateTypes as s01
use Rattle.gql_schema_rules.specs.S02DuplicateDirectives as s02
use Rattle.gql_schema_rules.specs.S04BuiltInNames as s04
use Rattle.gql_schema_rules.specs.S05EmptyTypes as s05
use Rattle.gql_schema_rules.specs.S06DuplicateFields as s06
use Rattle.gql_schema_rules.specs.S07DuplicateValues as s07
use Rattle.gql_schema_rules.specs.S08DuplicateArguments as s08
use Rattle.gql_schema_rules.specs.S18BadDefaultValues as s18
use Rattle.gql_schema_rules.specs.S23MissingQueryRoot as s23
use Rattle.gql_schema_rules.specs.S24NonObjectRoots as s24
use Rattle.gql_schema_rules.specs.S25SharedRootTypes as s25
use Rattle.gql_schema_rules.specs.S27ExtensionsOfUnknownTypes as s27
use Rattle.gql_schema_rules.specs.S28ExtensionsOfAnotherKind as s28
use Rattle.gql_schema_rules.specs.S34DuplicateSchemas as s34

-- the faults of definitions and extensions: S01, S02, S04, S27, S28
abbrev pub definition_faults : AllNodes → Schema → List Fault
definition_faults n s = s01.faults n
    ++ (s02.faults n ++ (s04.faults n ++ (s27.faults n s ++ s28.faults n s)))

-- the faults of types and directives: S05, S06, S07, S08, S18
abbrev pub type_faults : Schema → List Fault
type_faults s = s05.faults s ++ (s06.faults s ++ (s07.faults s ++ (s08.faults s ++ s18.faults s)))

-- the faults by S08 of the fields of these types, and of all directives
abbrev pub arguments_on : Schema → List SchemaType → List Fault
arguments_on s types = flat_map s08.faults_of_type types
    ++ flat_map s08.faults_of_directive (first_directives s.directives)

-- the faults by S18 of these types, and of all directives
abbrev pub defaults_on : Schema → List SchemaType → List Fault
defaults_on s types = flat_map (s18.faults_of_type s) types
    ++ flat_map (s18.faults_of_directive s) (first_directives s.directives)

-- the faults of directives, of these types by S05 to S08, and of the last types by S18
abbrev pub type_faults_on : Schema → List SchemaType → List SchemaType → List Fault
type_faults_on s types defaulted = flat_map s05.fault_of_type types
    ++ (flat_map s06.faults_of_type types
    ++ (flat_map s07.faults_of_type types
    ++ (arguments_on s types ++ defaults_on s defaulted)))

-- the faults of root operation types: S23, S24, S25, S34, P02
abbrev pub root_faults : Files → AllNodes → Schema → List Fault
root_faults files n s = s23.faults s
    ++ (s24.faults s ++ (s25.faults s ++ (s34.faults n s ++ p02.faults files s)))
