-- S21, Non-Output Types: the type of a field is not an output type (GraphQL 3.6, 3.7).
-- Reported at the type's name, about the type.
use Rattle.std.specs.Prelude.{List, [], flat_map, if◌then◌else◌}
use Rattle.gql_ast.specs.declared.fault.Fault.{Fault}
use Rattle.gql_ast.specs.declared.rule.Rule.TheVariants as rule
use Rattle.gql_ast.specs.declared.text.Name.{Name}
use Rattle.gql_built_in.specs.declared.sited.Sited.{Sited}
use Rattle.gql_faults.specs.Faults.{fault_of, where_known}
use Rattle.gql_types.specs.Kinds.{is_output}
use Rattle.gql_types.specs.Schemas.{kind_named}
use Rattle.gql_types.specs.declared.kind.TypeKind.{TypeKind}
use Rattle.gql_types.specs.declared.schema.Schema.{Schema}
use Rattle.gql_node_rules.specs.Nodes.{AllNodes}
use Rattle.gql_node_rules.specs.References.{outputs}

-- the fault of a reference
abbrev pub fault_of_name : Schema → Sited Name → List Fault
fault_of_name s n = where_known (kind_named s n.node.text) (λ (k : TypeKind). if is_output k then []
    else fault_of rule.S21 n)

-- the faults by S21
abbrev pub faults : AllNodes → Schema → List Fault
faults n s = flat_map (fault_of_name s) (outputs n)
