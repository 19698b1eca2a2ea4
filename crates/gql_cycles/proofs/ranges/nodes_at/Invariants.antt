use Rattle.std.proofs.Common.{◌≡◌, flat_map, take}
use Rattle.gql_cycles.specs.SegmentTree.{node_at}
use Rattle.gql_cycles.proofs.ranges.nodes_at.Given as goal

abbrev pub invariant-loop-number : goal.invariant-loop-number
invariant-loop-number l = l.nodes.items ≡ flat_map (node_at l.first) (take l.number-index l.numbers)
