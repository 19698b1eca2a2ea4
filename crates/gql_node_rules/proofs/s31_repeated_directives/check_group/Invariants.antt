use Rattle.std.proofs.Common.{◌≡◌, ◌++◌, map, flat_map, take}
use Rattle.gql_node_rules.specs.Borrowed.{application}
use Rattle.gql_node_rules.specs.S31RepeatedDirectives as spec
use Rattle.gql_node_rules.proofs.s31_repeated_directives.check_group.Given as goal

abbrev pub invariant-loop-applied : goal.invariant-loop-applied
invariant-loop-applied l = l.faults.items ≡ l.initial.faults.items
    ++ flat_map (spec.fault_in_group l.schema (map application l.group)) (map application (take l.applied-index l.group))
