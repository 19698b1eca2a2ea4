-- P01, Float References: a schema file refers to Float, where it is not served (this registry's own
-- rule).
-- Reported at the name, about `Float`.
use Rattle.std.specs.Prelude.{ℕ, List, [], Bool, codes, bytes_eq, is_some, flat_map, if◌then◌else◌}
use Rattle.gql_ast.specs.declared.fault.Fault.{Fault}
use Rattle.gql_ast.specs.declared.rule.Rule.TheVariants as rule
use Rattle.gql_ast.specs.declared.text.Name.{Name}
use Rattle.gql_built_in.specs.declared.sited.Sited.{Sited}
use Rattle.gql_faults.specs.Faults.{fault_of}
use Rattle.gql_types.specs.Schemas.{type_named}
use Rattle.gql_types.specs.declared.schema.Schema.{Schema}
use Rattle.gql_node_rules.specs.Nodes.{AllNodes}
use Rattle.gql_node_rules.specs.References.{references}

-- whether a name is `Float`
abbrev pub is_float : List ℕ → Bool
is_float name = bytes_eq name (codes "Float")

-- the fault of a reference that names no type
abbrev pub fault_of_unknown : Sited Name → List Fault
fault_of_unknown n = if is_float n.node.text then fault_of rule.P01 n else []

-- the fault of a reference
abbrev pub fault_of_name : Schema → Sited Name → List Fault
fault_of_name s n = if is_some (type_named s n.node.text) then [] else fault_of_unknown n

-- the faults by P01
abbrev pub faults : AllNodes → Schema → List Fault
faults n s = flat_map (fault_of_name s) (references n)
