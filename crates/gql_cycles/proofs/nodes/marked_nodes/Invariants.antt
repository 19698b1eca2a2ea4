use Rattle.std.proofs.Common.{◌≡◌, ◌<◌, ℕ, ◌↔◌, true, false, get_or, Contains}
use Rattle.gql_cycles.specs.Path.{Rises}
use Rattle.gql_cycles.proofs.nodes.marked_nodes.Given as goal

abbrev pub invariant-loop-node : goal.invariant-loop-node
invariant-loop-node l = record {
  once : Rises l.nodes.items;
  marked : (i : ℕ) → Contains l.nodes.items i ↔ ((i < l.node) × (get_or l.marks i false ≡ true));
}
