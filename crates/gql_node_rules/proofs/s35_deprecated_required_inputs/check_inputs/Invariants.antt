use Rattle.std.proofs.Common.{◌≡◌, ◌++◌, map, flat_map, take}
use Rattle.gql_node_rules.specs.Borrowed.{one}
use Rattle.gql_node_rules.specs.S35DeprecatedRequiredInputs.{faults_of_input}
use Rattle.gql_node_rules.proofs.s35_deprecated_required_inputs.check_inputs.Given as goal

abbrev pub invariant-loop-input : goal.invariant-loop-input
invariant-loop-input l = l.faults.items ≡ l.initial.faults.items
    ++ flat_map faults_of_input (map one (take l.input-index l.inputs))
