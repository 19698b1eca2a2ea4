-- S24, Non-Object Roots: a root operation type is not an object (GraphQL 3.3.1).
-- Reported at the type's name, about the type.
use Rattle.std.specs.Prelude.{List, [], flat_map, if◌then◌else◌}
use Rattle.gql_ast.specs.declared.fault.Fault.{Fault}
use Rattle.gql_ast.specs.declared.rule.Rule.TheVariants as rule
use Rattle.gql_faults.specs.Faults.{fault_of, where_known}
use Rattle.gql_types.specs.Kinds.{same_kind}
use Rattle.gql_types.specs.Schemas.{kind_named}
use Rattle.gql_types.specs.declared.kind.TypeKind.{TypeKind}
use Rattle.gql_types.specs.declared.kind.TypeKind.TheVariants as kind
use Rattle.gql_types.specs.declared.roots.Root.{Root}
use Rattle.gql_types.specs.declared.schema.Schema.{Schema}

-- the fault of a root operation type
abbrev pub fault_of_root : Schema → Root → List Fault
fault_of_root s r = where_known (kind_named s r.name.node.text) (λ (k : TypeKind).
    if same_kind k kind.Object then [] else fault_of rule.S24 r.name)

-- the faults by S24
abbrev pub faults : Schema → List Fault
faults s = flat_map (fault_of_root s) s.roots
