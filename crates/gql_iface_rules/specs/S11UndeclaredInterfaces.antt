-- S11, Undeclared Interfaces: a type does not declare an interface that one of its own declares
-- (GraphQL 3.6, 3.7).
-- Reported at the declaring interface's name in the list, about the missing name.
use Rattle.std.specs.Prelude.{List, [], flat_map, if◌then◌else◌}
use Rattle.gql_ast.specs.declared.fault.Fault.{Fault}
use Rattle.gql_ast.specs.declared.rule.Rule.TheVariants as rule
use Rattle.gql_ast.specs.declared.text.Name.{Name}
use Rattle.gql_built_in.specs.declared.sited.Sited.{Sited}
use Rattle.gql_faults.specs.Faults.{fault_at, place_of, where_known}
use Rattle.gql_iface_rules.specs.Implementing.{Implements, interface_named, implementations_of}
use Rattle.gql_types.specs.Covariance.{is_among}
use Rattle.gql_types.specs.declared.schema.Schema.{Schema}
use Rattle.gql_types.specs.declared.schema_type.SchemaType.{SchemaType}

-- the fault for an interface that the one at this name declares, unless it is among these names
abbrev pub unless_declared : Schema → List (Sited Name) → Sited Name → Sited Name → List Fault
unless_declared s names at j = where_known (interface_named s j.node.text) (λ (i : SchemaType).
    if is_among j.node.text names then [] else fault_at rule.S11 j.node.text (place_of at))

-- the faults for one interface that a type with these names in its list implements
abbrev pub undeclared_interfaces : Schema → List (Sited Name) → Implements → List Fault
undeclared_interfaces s names i = flat_map (unless_declared s names i.name) i.interface.interfaces

-- the faults of a type
abbrev pub faults_of_type : Schema → SchemaType → List Fault
faults_of_type s t = flat_map (undeclared_interfaces s t.interfaces) (implementations_of s t)

-- the faults by S11
abbrev pub faults : Schema → List Fault
faults s = flat_map (faults_of_type s) s.types
