-- S28, Extensions of Another Kind: an extension names a type of another kind (GraphQL 3.4.3).
-- Reported at the name, about the name.
use Rattle.std.specs.Prelude.{List, [], flat_map, if◌then◌else◌}
use Rattle.gql_ast.specs.declared.fault.Fault.{Fault}
use Rattle.gql_ast.specs.declared.rule.Rule.TheVariants as rule
use Rattle.gql_ast.specs.declared.type_system.TypeExtension.{TypeExtension}
use Rattle.gql_built_in.specs.declared.sited.Sited.{Sited}
use Rattle.gql_faults.specs.Faults.{fault_of, own_name_of, where_known}
use Rattle.gql_node_rules.specs.Nodes.{AllNodes}
use Rattle.gql_types.specs.Kinds.{same_kind}
use Rattle.gql_types.specs.Parts.{kind_of}
use Rattle.gql_types.specs.Schemas.{kind_named}
use Rattle.gql_types.specs.declared.kind.TypeKind.{TypeKind}
use Rattle.gql_types.specs.declared.schema.Schema.{Schema}

-- the fault of an extension
abbrev pub fault_of_extension : Schema → Sited TypeExtension → List Fault
fault_of_extension s e = where_known (kind_named s e.node.name.text) (λ (k : TypeKind).
    if same_kind k (kind_of e.node.parts) then []
    else fault_of rule.S28 (own_name_of (λ (x : TypeExtension). x.name) e))

-- the faults by S28
abbrev pub faults : AllNodes → Schema → List Fault
faults n s = flat_map (fault_of_extension s) n.type_extensions
