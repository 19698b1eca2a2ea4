-- S16, Non-Input Types: the type of an argument or an input field is not an input type (GraphQL
-- 3.6.1, 3.10, 3.13).
-- Reported at the type's name, about the type.
use Rattle.std.specs.Prelude.{List, [], flat_map, if◌then◌else◌}
use Rattle.gql_ast.specs.declared.fault.Fault.{Fault}
use Rattle.gql_ast.specs.declared.rule.Rule.TheVariants as rule
use Rattle.gql_ast.specs.declared.text.Name.{Name}
use Rattle.gql_built_in.specs.declared.sited.Sited.{Sited}
use Rattle.gql_faults.specs.Faults.{fault_of, where_known}
use Rattle.gql_types.specs.Kinds.{is_input}
use Rattle.gql_types.specs.Schemas.{kind_named}
use Rattle.gql_types.specs.declared.kind.TypeKind.{TypeKind}
use Rattle.gql_types.specs.declared.schema.Schema.{Schema}
use Rattle.gql_node_rules.specs.Nodes.{AllNodes}
use Rattle.gql_node_rules.specs.References.{inputs}

-- the fault of a reference
abbrev pub fault_of_name : Schema → Sited Name → List Fault
fault_of_name s n = where_known (kind_named s n.node.text) (λ (k : TypeKind). if is_input k then []
    else fault_of rule.S16 n)

-- the faults by S16
abbrev pub faults : AllNodes → Schema → List Fault
faults n s = flat_map (fault_of_name s) (inputs n)
