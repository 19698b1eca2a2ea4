-- S27, Extensions of Unknown Types: an extension names no type (GraphQL 3.4.3).
-- Reported at the name, about the name.
use Rattle.std.specs.Prelude.{List, [], is_some, flat_map, if◌then◌else◌}
use Rattle.gql_ast.specs.declared.fault.Fault.{Fault}
use Rattle.gql_ast.specs.declared.rule.Rule.TheVariants as rule
use Rattle.gql_ast.specs.declared.text.Name.{Name}
use Rattle.gql_ast.specs.declared.type_system.TypeExtension.{TypeExtension}
use Rattle.gql_built_in.specs.declared.sited.Sited.{Sited}
use Rattle.gql_faults.specs.Faults.{fault_of}
use Rattle.gql_node_rules.specs.Nodes.{AllNodes, each}
use Rattle.gql_types.specs.Schemas.{type_named}
use Rattle.gql_types.specs.declared.schema.Schema.{Schema}

-- the fault at the name of the type in an extension
abbrev pub fault_of_name : Schema → Sited Name → List Fault
fault_of_name s n = if is_some (type_named s n.node.text) then [] else fault_of rule.S27 n

-- the faults by S27
abbrev pub faults : AllNodes → Schema → List Fault
faults n s = flat_map (fault_of_name s) (each (λ (e : TypeExtension). e.name) n.type_extensions)
