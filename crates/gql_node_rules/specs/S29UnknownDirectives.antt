-- S29, Unknown Directives: an applied directive is not defined (GraphQL 5.7.1).
-- Reported at the directive's `@`, about the directive.
use Rattle.std.specs.Prelude.{List, [], is_some, flat_map, if◌then◌else◌}
use Rattle.gql_ast.specs.declared.fault.Fault.{Fault}
use Rattle.gql_ast.specs.declared.rule.Rule.TheVariants as rule
use Rattle.gql_faults.specs.Faults.{fault_at}
use Rattle.gql_types.specs.Schemas.{directive_named}
use Rattle.gql_types.specs.declared.schema.Schema.{Schema}
use Rattle.gql_node_rules.specs.Applied.{Application, applied, name_of, place_of}
use Rattle.gql_node_rules.specs.Nodes.{AllNodes}

-- the faults of an applied directive
abbrev pub faults_of_applied : Schema → Application → List Fault
faults_of_applied s a = if is_some (directive_named s (name_of a)) then []
    else fault_at rule.S29 (name_of a) (place_of a)

-- the faults by S29
abbrev pub faults : AllNodes → Schema → List Fault
faults n s = flat_map (faults_of_applied s) (applied n)
