-- Schema files without a part, and the faults that they bring.
use Rattle.std.proofs.Common.{◌≡◌, ◌↔◌, ℕ, List, Contains, ap, subst, sym}
use Rattle.std.specs.List.Sorted.{IsStrictlySortedBy}
use Rattle.gql_ast.specs.declared.definition.Document.{Document}
use Rattle.gql_ast.specs.declared.fault.Fault.{Fault}
use Rattle.gql_ast.specs.declared.files.Files.{Files}
use Rattle.gql_cut.specs.Cuts.{document_left}
use Rattle.gql_folder_usage.specs.Brought.{AreBrought, files_left}
use Rattle.gql_registry.specs.Report.{IsSound}
use Rattle.gql_removal.specs.declared.subject.Subject.{Subject}
use Rattle.gql_report.specs.Order.{fault_order}
use Rattle.gql_schema_rules.specs.SchemaFaults.{IsSchemaFault}

-- what is left of a file, under its name
abbrev pub left_of : Subject → List ℕ × Document → List ℕ × Document
left_of s file = (file.0, document_left s file.1)

-- a file and what is left of it
abbrev pub IsLeft : Subject → List ℕ × Document → List ℕ × Document → Type 0
IsLeft s file left = left ≡ left_of s file

pub same_name : (s : Subject) (file left : List ℕ × Document) → IsLeft s file left → left.0 ≡ file.0
same_name s file left e = ap (λ (x : List ℕ × Document). x.0) e

-- the faults of a schema without a part, in the order of reports, are those that its removal brings
pub are_brought : (s : Subject) (files left : Files) → left ≡ files_left s files → IsSound files → (faults report : List Fault)
    → IsStrictlySortedBy fault_order report → ((f : Fault) → Contains report f ↔ Contains faults f)
    → ((f : Fault) → Contains faults f → IsSchemaFault left f) → ((f : Fault) → IsSchemaFault left f → Contains faults f) → AreBrought s files report
are_brought s files left e sound faults report ordered members to from = (
  ordered,
  λ f. (
    λ h. (subst (λ x. IsSchemaFault x f) e (to f ((members f).0 h)), sound f),
    λ b. (members f).1 (from f (subst (λ x. IsSchemaFault x f) (sym e) b.0)),
  ),
)
