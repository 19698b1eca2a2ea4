-- S10, Self-Implementation: an interface implements itself (GraphQL 3.7).
-- Reported at the name in the list, about the name.
use Rattle.std.specs.Prelude.{List, [], flat_map, bytes_eq, if◌then◌else◌}
use Rattle.gql_ast.specs.declared.fault.Fault.{Fault}
use Rattle.gql_ast.specs.declared.rule.Rule.TheVariants as rule
use Rattle.gql_ast.specs.declared.text.Name.{Name}
use Rattle.gql_built_in.specs.declared.sited.Sited.{Sited}
use Rattle.gql_faults.specs.Faults.{fault_of}
use Rattle.gql_types.specs.Kinds.{same_kind}
use Rattle.gql_types.specs.Possible.{name_of}
use Rattle.gql_types.specs.declared.kind.TypeKind.TheVariants as kind
use Rattle.gql_types.specs.declared.schema.Schema.{Schema}
use Rattle.gql_types.specs.declared.schema_type.SchemaType.{SchemaType}

-- the fault at a name in the list of a type, if the type has that name
abbrev pub if_own_name : SchemaType → Sited Name → List Fault
if_own_name t n = if bytes_eq (name_of t) n.node.text then fault_of rule.S10 n else []

-- the faults of a type
abbrev pub faults_of_type : SchemaType → List Fault
faults_of_type t =
    if same_kind t.kind kind.Interface then flat_map (if_own_name t) t.interfaces else []

-- the faults by S10
abbrev pub faults : Schema → List Fault
faults s = flat_map faults_of_type s.types
