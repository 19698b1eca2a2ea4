use Rattle.std.proofs.Common.{◌≡◌, ◌++◌, flat_map, take}
use Rattle.gql_node_rules.specs.Borrowed.{one}
use Rattle.gql_node_rules.specs.S35DeprecatedRequiredInputs.{fault_of_directive}
use Rattle.gql_node_rules.proofs.s35_deprecated_required_inputs.check_required.Given as goal

abbrev pub invariant-loop-directive : goal.invariant-loop-directive
invariant-loop-directive l = l.faults.items ≡ l.initial.faults.items
    ++ flat_map (fault_of_directive (one l.input)) (take l.directive-index l.directive-items)
