-- Helper definitions for private contracts: the types that rules on types check.
use Rattle.std.specs.Prelude.{◌≡◌}
use Rattle.gql_node_rules.specs.FileFaults.{joint_on_types}
use Rattle.gql_schema_rules.specs.RuleGroups.{type_faults, type_faults_on}
use Rattle.gql_schema_rules.specs.declared.other_faults.TypesToCheck.{TypesToCheck}
use Rattle.gql_types.specs.declared.schema.Schema.{Schema}

-- the rules find on these types what they find on all types
pub record AreEnough (s : Schema) (types : TypesToCheck) : Type 0 where
  pub joint : joint_on_types s types.joint.now ≡ joint_on_types s s.types
  pub own : type_faults_on s types.own.now types.defaulted.now ≡ type_faults s
