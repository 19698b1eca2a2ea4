-- Helper definitions for private contracts: the root operation types of S25 in groups, each group
-- under a key.
use Rattle.std.specs.Prelude.{ℕ, List, [], ◌++◌, flat_map, if◌then◌else◌}
use Rattle.gql_ast.specs.declared.executable.OperationKind.{OperationKind}
use Rattle.gql_ast.specs.declared.executable.OperationKind.TheVariants.{Query, Mutation, Subscription}
use Rattle.gql_ast.specs.declared.fault.Fault.{Fault}
use Rattle.gql_types.specs.declared.roots.Root.{Root}
use Rattle.gql_types.specs.declared.schema.Schema.{Schema}
use Rattle.gql_types.specs.declared.schema_type.SchemaType.{SchemaType}
use Rattle.gql_types.specs.Kinds.{same_operation}
use Rattle.gql_types.specs.Schemas.{type_named}
use Rattle.gql_faults.specs.Faults.{where_known}
use Rattle.gql_schema_rules.specs.S25SharedRootTypes.{fault_with}
use Rattle.gql_schema_rules.specs.OperationKinds.{kind_word}

-- the key of a group: the word of the kind, and the name
abbrev pub key_of : OperationKind → List ℕ → List ℕ
key_of k name = kind_word k ++ name

-- the key of a root
abbrev pub key : Root → List ℕ
key r = key_of r.kind r.name.node.text

-- the faults of a root with the roots of another kind k that have its name
abbrev pub grouped_as : (List ℕ → List Root) → Root → OperationKind → List Fault
grouped_as groups r k = if same_operation k r.kind then []
    else flat_map (fault_with r) (groups (key_of k r.name.node.text))

-- the faults of a root with the groups of all kinds
abbrev pub grouped_earlier : (List ℕ → List Root) → Root → List Fault
grouped_earlier groups r = grouped_as groups r Query
    ++ (grouped_as groups r Mutation ++ grouped_as groups r Subscription)

-- the faults of a root with the groups of all kinds, if its type is known
abbrev pub grouped_with : Schema → (List ℕ → List Root) → Root → List Fault
grouped_with s groups r =
    where_known (type_named s r.name.node.text) (λ (t : SchemaType). grouped_earlier groups r)
