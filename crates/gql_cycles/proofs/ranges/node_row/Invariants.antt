use Rattle.std.proofs.Common.{◌≡◌, flat_map, take}
use Rattle.gql_cycles.specs.SegmentTree.{node_row}
use Rattle.gql_cycles.proofs.ranges.node_row.Given as goal

abbrev pub invariant-loop-node : goal.invariant-loop-node
invariant-loop-node l = l.row.items ≡ flat_map (node_row l.first l.nodes) (take l.node-index l.ends)
