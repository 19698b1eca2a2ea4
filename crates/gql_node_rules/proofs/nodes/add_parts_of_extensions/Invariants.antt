use Rattle.std.proofs.Common.{◌≡◌, ◌++◌, map, take}
use Rattle.gql_node_rules.specs.Borrowed.{one}
use Rattle.gql_node_rules.specs.Nodes.{each}
use Rattle.gql_node_rules.proofs.nodes.add_parts_of_extensions.Given as goal

abbrev pub invariant-loop-extension : goal.invariant-loop-extension
invariant-loop-extension l = map one l.found.items ≡ map one l.initial.found.items ++ each (λ e. e.parts) (map one (take l.extension-index l.extensions))
