-- S20, Unknown Types: a reference names no type (GraphQL 3.3).
-- Reported at the name, about the name.
use Rattle.std.specs.Prelude.{ℕ, List, [], ◌||◌, Bool, is_some, flat_map, if◌then◌else◌}
use Rattle.gql_ast.specs.declared.fault.Fault.{Fault}
use Rattle.gql_ast.specs.declared.rule.Rule.TheVariants as rule
use Rattle.gql_ast.specs.declared.text.Name.{Name}
use Rattle.gql_built_in.specs.declared.sited.Sited.{Sited}
use Rattle.gql_faults.specs.Faults.{fault_of}
use Rattle.gql_types.specs.Schemas.{type_named}
use Rattle.gql_types.specs.declared.schema.Schema.{Schema}
use Rattle.gql_node_rules.specs.Nodes.{AllNodes}
use Rattle.gql_node_rules.specs.P01FloatReferences.{is_float}
use Rattle.gql_node_rules.specs.References.{references}

-- whether a type has this name; P01 reports Float
abbrev pub is_known : Schema → List ℕ → Bool
is_known s name = is_some (type_named s name) || is_float name

-- the fault of a reference
abbrev pub fault_of_name : Schema → Sited Name → List Fault
fault_of_name s n = if is_known s n.node.text then [] else fault_of rule.S20 n

-- the faults by S20
abbrev pub faults : AllNodes → Schema → List Fault
faults n s = flat_map (fault_of_name s) (references n)
