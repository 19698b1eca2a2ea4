use Rattle.std.proofs.Common.{◌≡◌, ◌++◌, map, take}
use Rattle.gql_faults.specs.Places.{named}
use Rattle.gql_faults.specs.TypeNames.{name_in}
use Rattle.gql_node_rules.specs.Borrowed.{one}
use Rattle.gql_node_rules.specs.Nodes.{each}
use Rattle.gql_node_rules.proofs.references.add_types.Given as goal

abbrev pub invariant-loop-node : goal.invariant-loop-node
invariant-loop-node g l = map named l.found.items ≡ map named l.initial.found.items ++ each (λ n. name_in (g.T.Typed.of_type n)) (map one (take l.node-index l.nodes))
