use Rattle.std.proofs.Common.{◌≡◌, ◌++◌, flat_map, take}
use Rattle.gql_node_rules.specs.S31RepeatedDirectives.{faults_of_type}
use Rattle.gql_node_rules.proofs.s31_repeated_directives.check_types.Given as goal

abbrev pub invariant-loop-of_type : goal.invariant-loop-of_type
invariant-loop-of_type l = l.faults.items
    ≡ l.initial.faults.items ++ flat_map (faults_of_type l.schema) (take l.of_type-index l.types)
