use Rattle.std.proofs.Common.{ℕ, List, map, Contains, ◌↔◌}
use Rattle.gql_cycles.specs.Names.{row_of}
use Rattle.gql_cycles.specs.NameGraph.{names_of, AreApart}
use Rattle.gql_cycles.proofs.Placing.{IsMarkedBelow}
use Rattle.gql_cycles.proofs.name_graph.marked_names.Given as goal

abbrev pub invariant-loop-node : goal.invariant-loop-node
invariant-loop-node l = record {
  once : AreApart (map (λ m. m.now) l.names.items);
  names : (q : List ℕ) → Contains (map (λ m. m.now) l.names.items) q ↔ IsMarkedBelow (names_of (map row_of l.rows)) l.marks l.node q;
}
