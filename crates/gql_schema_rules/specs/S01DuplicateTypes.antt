-- S01, Duplicate Types: two type definitions have the same name (GraphQL 3.3).
-- Reported at the name in each definition, about the name.
use Rattle.std.specs.Prelude.{List}
use Rattle.gql_ast.specs.declared.fault.Fault.{Fault}
use Rattle.gql_ast.specs.declared.rule.Rule.TheVariants as rule
use Rattle.gql_ast.specs.declared.type_system.TypeDefinition.{TypeDefinition}
use Rattle.gql_faults.specs.Names.{repeated_faults}
use Rattle.gql_node_rules.specs.Nodes.{AllNodes, each}

-- the faults by S01
abbrev pub faults : AllNodes → List Fault
faults n = repeated_faults rule.S01 (each (λ (d : TypeDefinition). d.name) n.types)
