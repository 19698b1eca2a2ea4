-- Helper definitions for private contracts: the faults of the checks of files, and those that no
-- file has by itself.
use Rattle.std.specs.Prelude.{◌≡◌, ◌↔◌, ◌++◌, ℕ, List, flat_map, Contains}
use Rattle.gql_ast.specs.declared.fault.Fault.{Fault}
use Rattle.gql_ast.specs.declared.files.Files.{Files}
use Rattle.gql_types.specs.declared.schema.Schema.{Schema}
use Rattle.gql_iface_rules.specs.InterfaceFaults.{IsInterfaceFault}
use Rattle.gql_node_rules.specs.FileFaults.{joint_faults}
use Rattle.gql_node_rules.specs.declared.file_check.FileCheck.{FileCheck}
use Rattle.gql_schema_rules.specs.RuleGroups.{definition_faults, type_faults, root_faults}
use Rattle.gql_schema_rules.specs.SchemaFaults.{nodes_in}

-- the faults of these checks
abbrev pub faults_in : List (List ℕ × FileCheck) → List Fault
faults_in checks = flat_map (λ (c : List ℕ × FileCheck). c.1.faults.items) checks

-- these are all faults by the rules on interfaces and on cycles
abbrev pub ListsInterfaces : Schema → List Fault → Type 0
ListsInterfaces s faults = (f : Fault) → Contains faults f ↔ IsInterfaceFault s f

-- the faults by the rules that are checked for all these files together
pub record AreOthers (files : Files) (s : Schema) (others : List Fault) : Type 0 where
  -- those by the rules on interfaces and on cycles
  pub interfaces : List Fault
  pub sound : (f : Fault) → Contains interfaces f → IsInterfaceFault s f
  pub complete : (f : Fault) → IsInterfaceFault s f → Contains interfaces f
  pub joined : others ≡ (((interfaces ++ joint_faults (nodes_in files) s)
      ++ definition_faults (nodes_in files) s)
      ++ type_faults s) ++ root_faults files (nodes_in files) s
