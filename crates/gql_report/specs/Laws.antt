-- The law of the order of reports.
use Rattle.std.specs.Prelude.{◌≡◌, ◌↔◌, List, Contains}
use Rattle.std.specs.List.Sorted.{IsStrictlySortedBy}
use Rattle.gql_ast.specs.declared.fault.Fault.{Fault}
use Rattle.gql_report.specs.Order.{fault_order}

-- each set of faults has at most one report: two lists in the order of reports, with the same
-- faults, are equal
abbrev pub OneOrder : Type 0
OneOrder = (a b : List Fault) → IsStrictlySortedBy fault_order a → IsStrictlySortedBy fault_order b
    → ((f : Fault) → Contains a f ↔ Contains b f) → a ≡ b
