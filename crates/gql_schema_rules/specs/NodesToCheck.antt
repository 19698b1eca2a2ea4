-- Helper definitions for private contracts: the nodes that the rules for all files together visit.
use Rattle.std.specs.Prelude.{◌≡◌, List, [], flat_map}
use Rattle.gql_ast.specs.declared.files.Files.{Files}
use Rattle.gql_ast.specs.declared.type_system.TypeDefinition.{TypeDefinition}
use Rattle.gql_node_rules.specs.FileFaults.{joint_on_schema}
use Rattle.gql_node_rules.specs.Nodes.{AllNodes, each}
use Rattle.gql_types.specs.declared.schema.Schema.{Schema}
use Rattle.gql_schema_rules.specs.RuleGroups.{definition_faults, root_faults}
use Rattle.gql_schema_rules.specs.S01DuplicateTypes as s01
use Rattle.gql_schema_rules.specs.S04BuiltInNames as s04

-- no definition of a type is at fault by its name, by S01 or by S04
pub record AreOnce (n : AllNodes) : Type 0 where
  pub once : s01.faults n ≡ []
  pub new : flat_map s04.fault_of_type (each (λ (d : TypeDefinition). d.name) n.types) ≡ []

-- the rules for all files together find the same in these nodes as in all nodes
pub record FindsSame (s : Schema) (these all : AllNodes) : Type 0 where
  pub joint : joint_on_schema these s ≡ joint_on_schema all s
  pub definitions : definition_faults these s ≡ definition_faults all s
  pub roots : (files : Files) → root_faults files these s ≡ root_faults files all s
