-- The faults that the removal of a part brings to the schema: this registry's own rule. The part goes
-- alone, and what refers to it stays.
use Rattle.std.specs.Prelude.{◌↔◌, List, [], Contains}
use Rattle.std.specs.List.Sorted.{IsStrictlySortedBy}
use Rattle.gql_ast.specs.declared.fault.Fault.{Fault}
use Rattle.gql_ast.specs.declared.files.Files.{Files}
use Rattle.gql_cut.specs.Cuts.{schema_left}
use Rattle.gql_removal.specs.declared.subject.Subject.{Subject}
use Rattle.gql_report.specs.Order.{fault_order}
use Rattle.gql_schema_rules.specs.SchemaFaults.{IsSchemaFault}

-- the schema files without a part, and no document files
abbrev pub files_left : Subject → Files → Files
files_left s files = record files { schema = schema_left s files.schema; documents = [] }

-- a fault that the schema has without the part, and does not have with it
abbrev pub IsBrought : Subject → Files → Fault → Type 0
IsBrought s files f = IsSchemaFault (files_left s files) f × (IsSchemaFault files f → ⊥)

-- the faults that the removal of the part brings, each once, in the order of reports
abbrev pub AreBrought : Subject → Files → List Fault → Type 0
AreBrought s files faults = IsStrictlySortedBy fault_order faults
    × ((f : Fault) → Contains faults f ↔ IsBrought s files f)
