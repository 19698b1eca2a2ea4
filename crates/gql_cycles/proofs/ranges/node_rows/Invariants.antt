use Rattle.std.proofs.Common.{◌≡◌, map, take}
use Rattle.gql_cycles.specs.SegmentTree.{node_rows}
use Rattle.gql_cycles.proofs.ranges.node_rows.Given as goal

abbrev pub invariant-loop-nodes_there : goal.invariant-loop-nodes_there
invariant-loop-nodes_there l = map (λ v. v.items) l.rows.items ≡ node_rows l.first l.nodes (map (λ v. v.items) (take l.nodes_there-index l.ends))
