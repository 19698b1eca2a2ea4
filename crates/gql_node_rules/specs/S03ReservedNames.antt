-- S03, Reserved Names: a name that a schema file defines begins with two underscores (GraphQL
-- 2.1.9).
-- Reported at the name, about the name.
use Rattle.std.specs.Prelude.{ℕ, List, [], Bool, codes, flat_map, if◌then◌else◌}
use Rattle.std.specs.List.{starts_with}
use Rattle.std.specs.Prelude.{eqb}
use Rattle.gql_ast.specs.declared.fault.Fault.{Fault}
use Rattle.gql_ast.specs.declared.rule.Rule.TheVariants as rule
use Rattle.gql_ast.specs.declared.text.Name.{Name}
use Rattle.gql_built_in.specs.declared.sited.Sited.{Sited}
use Rattle.gql_faults.specs.Faults.{fault_of}
use Rattle.gql_node_rules.specs.DefinedNames.{defined_names}
use Rattle.gql_node_rules.specs.Nodes.{AllNodes}

-- whether a name begins with two underscores
abbrev pub is_reserved : List ℕ → Bool
is_reserved name = starts_with eqb name (codes "__")

-- the fault at a name
abbrev pub fault_of_name : Sited Name → List Fault
fault_of_name n = if is_reserved n.node.text then fault_of rule.S03 n else []

-- the faults by S03
abbrev pub faults : AllNodes → List Fault
faults n = flat_map fault_of_name (defined_names n)
