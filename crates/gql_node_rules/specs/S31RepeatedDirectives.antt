-- S31, Repeated Directives: a directive that is not repeatable is applied twice (GraphQL 3.3.2,
-- 5.7.3).
-- Reported at the directive's `@`, each time, about the directive.
-- It is repeated on one node, on a type with its extensions, or on the schema with its own.
use Rattle.std.specs.Prelude.{List, [], ◌∷◌, ◌++◌, map, nat_lt, flat_map, if◌then◌else◌}
use Rattle.gql_ast.specs.declared.fault.Fault.{Fault}
use Rattle.gql_ast.specs.declared.rule.Rule.TheVariants as rule
use Rattle.gql_ast.specs.declared.text.Name.{Name}
use Rattle.gql_ast.specs.declared.type_system.DirectiveDefinition.{DirectiveDefinition}
use Rattle.gql_built_in.specs.declared.sited.Sited.{Sited}
use Rattle.gql_faults.specs.Faults.{fault_at, where_known}
use Rattle.gql_faults.specs.Names.{count_of}
use Rattle.gql_types.specs.Schemas.{directive_named}
use Rattle.gql_types.specs.declared.schema.Schema.{Schema}
use Rattle.gql_types.specs.declared.schema_type.SchemaType.{SchemaType}
use Rattle.gql_node_rules.specs.Applied.{Annotations, Application, annotated, applied_at, name_of, place_of, type_and_extensions, schema_and_extensions}
use Rattle.gql_node_rules.specs.Nodes.{AllNodes}

-- the names of applied directives
abbrev pub names_of : List Application → List (Sited Name)
names_of group =
    map (λ (a : Application). record { file = a.file; node = a.directive.name }) group

-- the fault at a directive, if its definition is known and it is not repeatable
abbrev pub unless_repeatable : Schema → Application → List Fault
unless_repeatable s a = where_known (directive_named s (name_of a))
    (λ (d : Sited DirectiveDefinition).
    if d.node.is_repeatable then [] else fault_at rule.S31 (name_of a) (place_of a))

-- the fault at one directive of a group, if its name occurs more than once there
abbrev pub fault_in_group : Schema → List Application → Application → List Fault
fault_in_group s group a =
    if nat_lt 1 (count_of (name_of a) (names_of group)) then unless_repeatable s a else []

-- the faults of directives that count together
abbrev pub faults_in_group : Schema → List Application → List Fault
faults_in_group s group = flat_map (fault_in_group s group) group

-- the faults of nodes whose directives count together
abbrev pub faults_together : Schema → List Annotations → List Fault
faults_together s nodes = faults_in_group s (flat_map applied_at nodes)

-- the faults of one node
abbrev pub faults_alone : Schema → Annotations → List Fault
faults_alone s n = faults_together s (n ∷ [])

-- the faults of a type with its extensions
abbrev pub faults_of_type : Schema → SchemaType → List Fault
faults_of_type s t = faults_together s (type_and_extensions t)

-- the faults of the schema with its extensions
abbrev pub faults_of_schema : AllNodes → Schema → List Fault
faults_of_schema n s = faults_together s (schema_and_extensions n)

-- the faults of these nodes, of the types with their extensions, and of the schema
abbrev pub faults_by : List Annotations → AllNodes → Schema → List Fault
faults_by nodes n s =
    flat_map (faults_alone s) nodes ++ (flat_map (faults_of_type s) s.types ++ faults_of_schema n s)

-- the faults by S31
abbrev pub faults : AllNodes → Schema → List Fault
faults n s = faults_by (annotated n) n s
