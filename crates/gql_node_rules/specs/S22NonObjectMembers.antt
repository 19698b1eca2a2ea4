-- S22, Non-Object Members: a member of a union is not an object (GraphQL 3.8).
-- Reported at the member's name, about the member.
use Rattle.std.specs.Prelude.{List, [], flat_map, if◌then◌else◌}
use Rattle.gql_ast.specs.declared.fault.Fault.{Fault}
use Rattle.gql_ast.specs.declared.rule.Rule.TheVariants as rule
use Rattle.gql_ast.specs.declared.text.Name.{Name}
use Rattle.gql_built_in.specs.declared.sited.Sited.{Sited}
use Rattle.gql_faults.specs.Faults.{fault_of, where_known}
use Rattle.gql_types.specs.Kinds.{same_kind}
use Rattle.gql_types.specs.Schemas.{kind_named}
use Rattle.gql_types.specs.declared.kind.TypeKind.{TypeKind}
use Rattle.gql_types.specs.declared.kind.TypeKind.TheVariants as kind
use Rattle.gql_types.specs.declared.schema.Schema.{Schema}
use Rattle.gql_node_rules.specs.Nodes.{AllNodes}
use Rattle.gql_node_rules.specs.References.{members}

-- the fault of a reference
abbrev pub fault_of_name : Schema → Sited Name → List Fault
fault_of_name s n = where_known (kind_named s n.node.text)
    (λ (k : TypeKind). if same_kind k kind.Object then [] else fault_of rule.S22 n)

-- the faults by S22
abbrev pub faults : AllNodes → Schema → List Fault
faults n s = flat_map (fault_of_name s) (members n)
