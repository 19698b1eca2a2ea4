use Rattle.std.proofs.Common.{◌≡◌, map, take, length, bytes_eq}
use Rattle.std.specs.HashMap as hash
use Rattle.gql_cycles.specs.Names.{row_of}
use Rattle.gql_cycles.specs.NameGraph.{Joins}
use Rattle.gql_cycles.proofs.name_graph.edges_of.Given as goal

abbrev pub invariant-loop-row : goal.invariant-loop-row
invariant-loop-row l = record {
  length_is : length l.edges.items ≡ length l.rows;
  joins : Joins (λ q. hash.get_by (λ k. bytes_eq q k.now) l.nodes) (take l.row-index (map row_of l.rows)) (map (λ v. v.items) l.edges.items);
}
