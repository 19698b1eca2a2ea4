use Rattle.std.proofs.Common.{◌≡◌, ◌++◌, map, flat_map, take}
use Rattle.std.specs.Option.{option_copied}
use Rattle.gql_node_rules.specs.Borrowed.{one}
use Rattle.gql_node_rules.specs.S36MisplacedAppends.{faults_of_extension}
use Rattle.gql_node_rules.proofs.s36_misplaced_appends.check_extensions.Given as goal

abbrev pub invariant-loop-extension : goal.invariant-loop-extension
invariant-loop-extension l = l.faults.items ≡ l.initial.faults.items
    ++ flat_map (faults_of_extension (option_copied l.root)) (map one (take l.extension-index l.extensions))
