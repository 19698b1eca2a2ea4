-- All faults of a schema, with what an edit of a schema file can keep of them.
use Rattle.std.specs.Prelude.{◌≡◌, ◌↔◌, [], Contains, IsTrue}
use Rattle.gql_ast.specs.declared.fault.Fault.{Fault}
use Rattle.gql_ast.specs.declared.files.Files.{Files}
use Rattle.gql_types.specs.Schemas.{schema_of}
use Rattle.gql_iface_rules.specs.Quiet.{IsQuiet}
use Rattle.gql_node_rules.specs.FileFaults.{joint_on_types}
use Rattle.gql_schema_rules.specs.ChecksOfFiles.{AreChecksOf}
use Rattle.gql_schema_rules.specs.RuleGroups.{type_faults}
use Rattle.gql_schema_rules.specs.SchemaFaults.{IsSchemaFault}
use Rattle.gql_schema_rules.specs.declared.kept_faults.SchemaFaults.{SchemaFaults}

-- all faults of the schema of these files, none missing and none invented, and the checks of the
-- files; it says that types with their extensions are sound exactly if none is at fault by S31, and
-- that types are sound exactly if none is at fault by S05 to S08 or S18, and no directive either; what
-- it says that the rules on interfaces and cycles find nothing in holds
pub record AreFaultsOf (files : Files) (k : SchemaFaults) : Type 0 where
  pub checks : AreChecksOf (schema_of files) files.schema k.checks
  pub all : (f : Fault) → Contains k.all.items f ↔ IsSchemaFault files f
  pub joint : IsTrue k.are_joint_sound
      ↔ (joint_on_types (schema_of files) (schema_of files).types ≡ [])
  pub sound : IsTrue k.are_types_sound ↔ (type_faults (schema_of files) ≡ [])
  pub quiet : IsQuiet (schema_of files) k.quiet
