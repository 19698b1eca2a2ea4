use Rattle.std.proofs.Common.{◌≡◌, map, take}
use Rattle.gql_faults.specs.Places.{named}
use Rattle.gql_node_rules.specs.Borrowed.{application}
use Rattle.gql_node_rules.specs.S31RepeatedDirectives as spec
use Rattle.gql_node_rules.proofs.s31_repeated_directives.names_of.Given as goal

abbrev pub invariant-loop-applied : goal.invariant-loop-applied
invariant-loop-applied l =
    map named l.names.items ≡ spec.names_of (map application (take l.applied-index l.group))
