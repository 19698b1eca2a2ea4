use Rattle.std.proofs.Common.{◌≡◌, ◌++◌, map, take}
use Rattle.gql_faults.specs.Places.{named}
use Rattle.gql_node_rules.specs.Borrowed.{one}
use Rattle.gql_node_rules.specs.Nodes.{each}
use Rattle.gql_node_rules.proofs.defined_names.add_names.Given as goal

abbrev pub invariant-loop-node : goal.invariant-loop-node
invariant-loop-node g l = map named l.found.items ≡ map named l.initial.found.items ++ each g.T.HasOwnName.own_name (map one (take l.node-index l.nodes))
