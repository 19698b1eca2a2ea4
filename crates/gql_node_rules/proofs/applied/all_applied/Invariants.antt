use Rattle.std.proofs.Common.{◌≡◌, map, flat_map, take}
use Rattle.gql_node_rules.specs.Applied.{applied_at}
use Rattle.gql_node_rules.specs.Borrowed.{annotations, application}
use Rattle.gql_node_rules.proofs.applied.all_applied.Given as goal

abbrev pub invariant-loop-node : goal.invariant-loop-node
invariant-loop-node l = map application l.found.items ≡ flat_map applied_at (map annotations (take l.node-index l.nodes))
