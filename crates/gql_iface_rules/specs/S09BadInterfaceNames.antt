-- S09, Bad Interface Names: a type lists a type that is no interface, or lists a name twice
-- (GraphQL 3.6, 3.7).
-- Reported at the name in the list, about the name.
use Rattle.std.specs.Prelude.{List, [], ◌++◌, flat_map, if◌then◌else◌}
use Rattle.gql_ast.specs.declared.fault.Fault.{Fault}
use Rattle.gql_ast.specs.declared.rule.Rule.TheVariants as rule
use Rattle.gql_ast.specs.declared.text.Name.{Name}
use Rattle.gql_built_in.specs.declared.sited.Sited.{Sited}
use Rattle.gql_faults.specs.Faults.{fault_of, where_known}
use Rattle.gql_faults.specs.Names.{repeated_faults}
use Rattle.gql_types.specs.Kinds.{same_kind}
use Rattle.gql_types.specs.Schemas.{kind_named}
use Rattle.gql_types.specs.declared.kind.TypeKind.{TypeKind}
use Rattle.gql_types.specs.declared.kind.TypeKind.TheVariants as kind
use Rattle.gql_types.specs.declared.schema.Schema.{Schema}
use Rattle.gql_types.specs.declared.schema_type.SchemaType.{SchemaType}

-- the fault at the name of a type that is not an interface
abbrev pub unless_interface : Schema → Sited Name → List Fault
unless_interface s n = where_known (kind_named s n.node.text) (λ (k : TypeKind).
    if same_kind k kind.Interface then [] else fault_of rule.S09 n)

-- the faults of a list of interfaces: names of other types, and names that occur more than once
abbrev pub bad_interface_names : Schema → SchemaType → List Fault
bad_interface_names s t =
    flat_map (unless_interface s) t.interfaces ++ repeated_faults rule.S09 t.interfaces

-- the faults by S09
abbrev pub faults : Schema → List Fault
faults s = flat_map (bad_interface_names s) s.types
