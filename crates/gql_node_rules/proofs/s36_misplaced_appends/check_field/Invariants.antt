use Rattle.std.proofs.Common.{◌≡◌, ◌++◌, flat_map, take}
use Rattle.gql_node_rules.specs.Borrowed.{one}
use Rattle.gql_node_rules.specs.S36MisplacedAppends.{fault_of_directive}
use Rattle.gql_node_rules.proofs.s36_misplaced_appends.check_field.Given as goal

abbrev pub invariant-loop-directive : goal.invariant-loop-directive
invariant-loop-directive l = l.faults.items ≡ l.initial.faults.items
    ++ flat_map (fault_of_directive (one l.field)) (take l.directive-index l.directive-items)
