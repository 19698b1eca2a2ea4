-- S25, Shared Root Types: two kinds of operations have the same root operation type (GraphQL
-- 3.3.1).
-- Reported at the later root, with the earlier one as the second place, about the type.
use Rattle.std.specs.Prelude.{ℕ, List, [], ◌++◌, ◌&&◌, Bool, bytes_eq, flat_map, filter, if◌then◌else◌}
use Rattle.gql_ast.specs.declared.executable.OperationKind.{OperationKind}
use Rattle.gql_ast.specs.declared.executable.OperationKind.TheVariants.{Query, Mutation, Subscription}
use Rattle.gql_ast.specs.declared.fault.Fault.{Fault}
use Rattle.gql_ast.specs.declared.rule.Rule.TheVariants as rule
use Rattle.gql_types.specs.declared.roots.Root.{Root}
use Rattle.gql_types.specs.declared.schema.Schema.{Schema}
use Rattle.gql_types.specs.declared.schema_type.SchemaType.{SchemaType}
use Rattle.gql_types.specs.Kinds.{same_operation}
use Rattle.gql_types.specs.Schemas.{type_named}
use Rattle.gql_schema_rules.specs.EarlierRoots.{with_earlier}
use Rattle.gql_faults.specs.Faults.{fault_between, place_of, where_known}

-- whether a root operation type has this kind and this name
abbrev pub is_for : OperationKind → List ℕ → Root → Bool
is_for k name r = same_operation k r.kind && bytes_eq name r.name.node.text

-- the fault of a root and an earlier one of the same type
abbrev pub fault_with : Root → Root → List Fault
fault_with r e = fault_between rule.S25 r.name.node.text (place_of r.name) (place_of e.name)

-- the faults of a root with the earlier ones of a kind, unless it is of that kind
abbrev pub faults_with_kind : Root → List Root → OperationKind → List Fault
faults_with_kind r earlier k = if same_operation k r.kind then []
    else flat_map (fault_with r) (filter (is_for k r.name.node.text) earlier)

-- the faults of a root with the earlier ones of all other kinds
abbrev pub faults_with_earlier : Root → List Root → List Fault
faults_with_earlier r earlier = faults_with_kind r earlier Query
    ++ (faults_with_kind r earlier Mutation ++ faults_with_kind r earlier Subscription)

-- the faults of a root, if its type is known
abbrev pub faults_of_root : Schema → List Root → Root → List Fault
faults_of_root s earlier r =
    where_known (type_named s r.name.node.text) (λ (t : SchemaType). faults_with_earlier r earlier)

-- the faults by S25
abbrev pub faults : Schema → List Fault
faults s = with_earlier (faults_of_root s) [] s.roots
