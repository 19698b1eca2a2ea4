-- S30, Bad Locations: a directive is applied at a location that it does not list (GraphQL 3.13,
-- 5.7.2).
-- Reported at the directive's `@`, about the directive.
use Rattle.std.specs.Prelude.{List, [], Option, flat_map, if◌then◌else◌}
use Rattle.gql_ast.specs.declared.fault.Fault.{Fault}
use Rattle.gql_ast.specs.declared.rule.Rule.TheVariants as rule
use Rattle.gql_ast.specs.declared.type_system.DirectiveDefinition.{DirectiveDefinition}
use Rattle.gql_built_in.specs.declared.sited.Sited.{Sited}
use Rattle.gql_faults.specs.Faults.{fault_at, where_known}
use Rattle.gql_types.specs.Schemas.{directive_named}
use Rattle.gql_types.specs.declared.schema.Schema.{Schema}
use Rattle.gql_node_rules.specs.Applied.{Application, applied, is_listed, name_of, place_of}
use Rattle.gql_node_rules.specs.Nodes.{AllNodes}

-- the fault of an applied directive with this definition, if it is known
abbrev pub fault_by : Option (Sited DirectiveDefinition) → Application → List Fault
fault_by known a = where_known known
    (λ (d : Sited DirectiveDefinition). if is_listed a.location d.node.locations then []
    else fault_at rule.S30 (name_of a) (place_of a))

-- the faults of an applied directive
abbrev pub faults_of_applied : Schema → Application → List Fault
faults_of_applied s a = fault_by (directive_named s (name_of a)) a

-- the faults by S30
abbrev pub faults : AllNodes → Schema → List Fault
faults n s = flat_map (faults_of_applied s) (applied n)
