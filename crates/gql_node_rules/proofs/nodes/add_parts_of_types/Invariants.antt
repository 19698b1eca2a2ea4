use Rattle.std.proofs.Common.{◌≡◌, ◌++◌, map, take}
use Rattle.gql_node_rules.specs.Borrowed.{one}
use Rattle.gql_node_rules.specs.Nodes.{each}
use Rattle.gql_node_rules.proofs.nodes.add_parts_of_types.Given as goal

abbrev pub invariant-loop-definition : goal.invariant-loop-definition
invariant-loop-definition l = map one l.found.items ≡ map one l.initial.found.items ++ each (λ d. d.parts) (map one (take l.definition-index l.types))
