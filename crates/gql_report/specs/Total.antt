-- The order of reports is total, and no two faults are equal in it.
use Rattle.std.specs.Prelude.{take, drop}
use Rattle.std.specs.Cmp.{IsTotalOrder, then_total, on_total, nat_cmp_total}
use Rattle.std.specs.Cmp.Lexicographic.{lists_total, options_total, nat_list_cmp_total}
use Rattle.gql_ast.specs.Rules.{name_of}
use Rattle.gql_ast.specs.declared.fault.Fault.{Fault}
use Rattle.gql_ast.specs.declared.fault.FilePlace.{FilePlace}
use Rattle.gql_report.specs.Order.{side_number, place_order, fault_order}

pub place_order_total : IsTotalOrder place_order
place_order_total = then_total (on_total (λ (p : FilePlace). side_number p.side) nat_cmp_total)
    (then_total (on_total (λ (p : FilePlace). p.file) nat_list_cmp_total)
    (then_total (on_total (λ (p : FilePlace). p.place.offset) nat_cmp_total)
    (then_total (on_total (λ (p : FilePlace). p.place.line) nat_cmp_total)
    (on_total (λ (p : FilePlace). p.place.column) nat_cmp_total))))

pub fault_order_total : IsTotalOrder fault_order
fault_order_total = then_total (on_total (λ (f : Fault). take 1 f.places)
    (lists_total place_order_total))
    (then_total (on_total (λ (f : Fault). name_of f.rule) nat_list_cmp_total)
    (then_total (on_total (λ (f : Fault). drop 1 f.places) (lists_total place_order_total))
    (then_total (on_total (λ (f : Fault). f.owner) (options_total place_order_total))
    (on_total (λ (f : Fault). f.about) nat_list_cmp_total))))
