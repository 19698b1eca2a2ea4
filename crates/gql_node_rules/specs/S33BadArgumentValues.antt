-- S33, Bad Argument Values: the value of an applied directive's argument does not fit its type
-- (GraphQL 5.6.1).
-- Reported at the start of the value, about the argument.
use Rattle.std.specs.Prelude.{ℕ, List, Option, bytes_eq, find, flat_map}
use Rattle.gql_ast.specs.declared.fault.Fault.{Fault}
use Rattle.gql_ast.specs.declared.literal.Argument.{Argument}
use Rattle.gql_ast.specs.declared.rule.Rule.TheVariants as rule
use Rattle.gql_ast.specs.declared.type_system.DirectiveDefinition.{DirectiveDefinition}
use Rattle.gql_ast.specs.declared.type_system.InputValueDefinition.{InputValueDefinition}
use Rattle.gql_built_in.specs.declared.sited.Sited.{Sited}
use Rattle.gql_faults.specs.Faults.{where_known}
use Rattle.gql_types.specs.Schemas.{directive_named}
use Rattle.gql_types.specs.declared.schema.Schema.{Schema}
use Rattle.gql_node_rules.specs.Applied.{Application, applied, name_of}
use Rattle.gql_node_rules.specs.Nodes.{AllNodes}
use Rattle.gql_node_rules.specs.ValueFaults.{fault_unless_fit}

-- the first argument of this name that a directive defines
abbrev pub argument_named : List InputValueDefinition → List ℕ → Option InputValueDefinition
argument_named arguments name = find
    (λ (v : InputValueDefinition). bytes_eq name v.name.text) arguments

-- the fault of the value of one argument in this file, if the definition has the argument
abbrev pub fault_of_value : Schema → Option (List ℕ) → List InputValueDefinition → Argument
    → List Fault
fault_of_value s file arguments a = where_known (argument_named arguments a.name.text)
    (λ (v : InputValueDefinition). fault_unless_fit rule.S33 s v
    (record { file = file; node = a.value }))

-- the faults of an applied directive with this definition, if it is known
abbrev pub faults_by : Schema → Option (Sited DirectiveDefinition) → Application → List Fault
faults_by s known a = where_known known (λ (d : Sited DirectiveDefinition).
    flat_map (fault_of_value s a.file d.node.arguments) a.directive.arguments)

-- the faults of an applied directive
abbrev pub faults_of_applied : Schema → Application → List Fault
faults_of_applied s a = faults_by s (directive_named s (name_of a)) a

-- the faults by S33
abbrev pub faults : AllNodes → Schema → List Fault
faults n s = flat_map (faults_of_applied s) (applied n)
