use Rattle.std.proofs.Common.{◌≡◌, ◌++◌, map, flat_map, take}
use Rattle.std.specs.Option.{option_copied}
use Rattle.gql_node_rules.specs.Borrowed.{one}
use Rattle.gql_node_rules.specs.S36MisplacedAppends.{faults_of_definition}
use Rattle.gql_node_rules.proofs.s36_misplaced_appends.check_definitions.Given as goal

abbrev pub invariant-loop-definition : goal.invariant-loop-definition
invariant-loop-definition l = l.faults.items ≡ l.initial.faults.items
    ++ flat_map (faults_of_definition (option_copied l.root)) (map one (take l.definition-index l.definitions))
