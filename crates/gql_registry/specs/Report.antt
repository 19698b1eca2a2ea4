-- The report of files: all their faults and no others, each once, in the order of reports. If the
-- schema has faults, these alone are the report.
use Rattle.std.specs.Prelude.{◌↔◌, List, Contains}
use Rattle.std.specs.List.Sorted.{IsStrictlySortedBy}
use Rattle.gql_ast.specs.declared.definition.Definition.{Definition}
use Rattle.gql_ast.specs.declared.fault.Fault.{Fault}
use Rattle.gql_ast.specs.declared.files.Files.{Files}
use Rattle.gql_facts.specs.Facts.{fact_of}
use Rattle.gql_report.specs.Order.{fault_order}
use Rattle.gql_schema_rules.specs.SchemaFaults.{IsSchemaFault}
pub use Rattle.gql_serving.specs.SoundSchemas.{IsSound}
use Rattle.gql_verdict.specs.Definitions.{all_definitions}
use Rattle.gql_verdict.specs.Faults.{IsFaultIn}
use Rattle.gql_verdict.specs.NameFaults.{name_faults}

-- The files have this fault: it is one of the schema; or, if the schema has none, one of the names
-- in all document files or of a definition in them.
pub data IsFault (files : Files) (f : Fault) : Type 0 where
  of_schema : IsSchemaFault files f → IsFault files f
  of_names : IsSound files → Contains (name_faults files) f → IsFault files f
  of_definition : {d : Definition} → IsSound files → Contains (all_definitions files.documents) d
      → IsFaultIn (fact_of files) d f → IsFault files f

-- these are the faults of the files, each once, in the order of reports
abbrev pub IsReport : Files → List Fault → Type 0
IsReport files faults = IsStrictlySortedBy fault_order faults
    × ((f : Fault) → Contains faults f ↔ IsFault files f)
