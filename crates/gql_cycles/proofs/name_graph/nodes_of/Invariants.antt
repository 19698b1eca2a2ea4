use Rattle.std.proofs.Common.{map, bytes_eq}
use Rattle.std.specs.HashMap as hash
use Rattle.gql_cycles.specs.Names.{row_of}
use Rattle.gql_cycles.specs.NameGraph.{names_of}
use Rattle.gql_cycles.proofs.Placing.{Placed}
use Rattle.gql_cycles.proofs.name_graph.nodes_of.Given as goal

abbrev pub invariant-loop-node : goal.invariant-loop-node
invariant-loop-node l = Placed (names_of (map row_of l.rows)) (λ q. hash.get_by (λ k. bytes_eq q k.now) l.nodes) l.node
