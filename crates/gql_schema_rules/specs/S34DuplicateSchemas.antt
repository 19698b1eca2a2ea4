-- S34, Duplicate Schemas: there are two schema definitions, or an operation type is given twice
-- (GraphQL 3.3, 3.3.1).
-- Reported at `schema`, or the later operation type, about the same word.
use Rattle.std.specs.Prelude.{ℕ, List, [], ◌++◌, Bool, nat_lt, length, codes, flat_map, Option, Some, None, if◌then◌else◌}
use Rattle.std.specs.List.{list_any}
use Rattle.gql_text.specs.declared.place.Place.{Place}
use Rattle.gql_ast.specs.declared.executable.OperationKind.{OperationKind}
use Rattle.gql_ast.specs.declared.fault.Fault.{Fault}
use Rattle.gql_ast.specs.declared.rule.Rule.TheVariants as rule
use Rattle.gql_ast.specs.declared.type_system.SchemaDefinition.{SchemaDefinition}
use Rattle.gql_built_in.specs.declared.sited.Sited.{Sited}
use Rattle.gql_faults.specs.Faults.{fault_at}
use Rattle.gql_node_rules.specs.Nodes.{AllNodes, each}
use Rattle.gql_types.specs.Kinds.{same_operation}
use Rattle.gql_types.specs.declared.roots.Root.{Root}
use Rattle.gql_types.specs.declared.schema.Schema.{Schema}
use Rattle.gql_schema_rules.specs.EarlierRoots.{with_earlier}
use Rattle.gql_schema_rules.specs.OperationKinds.{kind_word}

-- the places of the keyword `schema` of each definition
abbrev pub keywords : AllNodes → List (Sited Place)
keywords n = each (λ (d : SchemaDefinition). d.keyword) n.schemas

-- a fault at each of these keywords, if there are two or more
abbrev pub faults_of_keywords : List (Sited Place) → List Fault
faults_of_keywords words =
    if nat_lt 1 (length words) then flat_map (fault_at rule.S34 (codes "schema")) words else []

-- the fault at the entry of a root; a root that has its type by the type's name alone has no entry
abbrev pub fault_at_entry : OperationKind → Option (List ℕ) → Option Place → List Fault
fault_at_entry k file None = []
fault_at_entry k file (Some place) =
    fault_at rule.S34 (kind_word k) (record { file = file; node = place })

-- whether one of these roots has the kind
abbrev pub has_kind : List Root → OperationKind → Bool
has_kind roots k = list_any (λ (r : Root). same_operation k r.kind) roots

-- the fault of a root, if an earlier one has its kind
abbrev pub fault_if_again : List Root → Root → List Fault
fault_if_again earlier r =
    if has_kind earlier r.kind then fault_at_entry r.kind r.name.file r.entry else []

-- the faults of roots
abbrev pub faults_of_roots : List Root → List Fault
faults_of_roots roots = with_earlier fault_if_again [] roots

-- the faults by S34
abbrev pub faults : AllNodes → Schema → List Fault
faults n s = faults_of_roots s.roots ++ faults_of_keywords (keywords n)
