use Rattle.std.proofs.Common.{◌≡◌, ◌++◌, map, flat_map, take}
use Rattle.gql_node_rules.specs.Borrowed.{annotations}
use Rattle.gql_node_rules.specs.S31RepeatedDirectives.{faults_alone}
use Rattle.gql_node_rules.proofs.s31_repeated_directives.check_nodes.Given as goal

abbrev pub invariant-loop-node : goal.invariant-loop-node
invariant-loop-node l = l.faults.items
    ≡ l.initial.faults.items ++ flat_map (faults_alone l.schema) (map annotations (take l.node-index l.nodes))
