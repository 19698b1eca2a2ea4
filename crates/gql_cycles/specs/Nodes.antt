-- Graphs: for each node, which is a number, the nodes to which it has an edge.
use Rattle.std.specs.Prelude.{◌≡◌, ℕ, ◌<◌, List, [], Bool, true, false, length, slice_index_or, Contains}

-- there is an edge from i to j
abbrev pub IsEdge : List (List ℕ) → ℕ → ℕ → Type 0
IsEdge graph i j = Contains (slice_index_or graph i []) j

-- each edge ends at a node of the graph
abbrev pub IsGraph : List (List ℕ) → Type 0
IsGraph graph = (i j : ℕ) → IsEdge graph i j → j < length graph

-- there is a trail from a node to another: one or more edges, one after another
pub data Trail (graph : List (List ℕ)) : ℕ → ℕ → Type 0 where
  edge : {i j : ℕ} → IsEdge graph i j → Trail graph i j
  next : {i j k : ℕ} → IsEdge graph i j → Trail graph j k → Trail graph i k

-- the marked nodes are exactly those with a trail back to themselves
pub record MarksCycles (graph : List (List ℕ)) (marks : List Bool) : Type 0 where
  pub length_is : length marks ≡ length graph
  pub sound : (i : ℕ) → slice_index_or marks i false ≡ true → Trail graph i i
  pub complete : (i : ℕ) → Trail graph i i → slice_index_or marks i false ≡ true
