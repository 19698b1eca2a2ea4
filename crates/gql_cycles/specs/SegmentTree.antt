-- Helper definitions for private contracts: the graph of the segments of a segment tree, the
-- numbers below them, and the nodes that lead to segments.
use Rattle.std.specs.Prelude.{◌≡◌, ℕ, zero, suc, ◌+◌, ◌-◌, ◌*◌, ◌<◌, ◌⊎◌, ◌↔◌, List, [], ◌∷◌, ◌++◌, nat_lt, nat_le, map, flat_map, length, slice_index_or, Contains, if◌then◌else◌}
use Rattle.gql_cycles.specs.Nodes.{IsEdge}
use Rattle.gql_cycles.specs.Cover.{IsAbove, IsWithinAny}
use Rattle.gql_cycles.specs.declared.cover.Range.{Range}

-- the edges of the first segments: each leads to the two segments below it
abbrev pub inner_rows : ℕ → List (List ℕ)
inner_rows zero = []
inner_rows (suc n) = inner_rows n ++ ((2 * n) ∷ (2 * n + 1) ∷ []) ∷ []

-- the node in the graph, where nodes come after the segments; none for a number that is not a node
abbrev pub node_row : ℕ → ℕ → ℕ → List ℕ
node_row first nodes node = if nat_lt node nodes then (first + node) ∷ [] else []

-- the edges of the segments of numbers, to the nodes that each number leads to
abbrev pub node_rows : ℕ → ℕ → List (List ℕ) → List (List ℕ)
node_rows first nodes ends = map (flat_map (node_row first nodes)) ends

-- the node that this number of the graph is, if it is not a segment
abbrev pub node_at : ℕ → ℕ → List ℕ
node_at first number = if nat_le first number then (number - first) ∷ [] else []

-- these segments cover exactly the numbers of the ranges
pub record IsCover (count : ℕ) (ranges : List Range) (segments : List ℕ) : Type 0 where
  pub within : (v : ℕ) → Contains segments v → v < 2 * count
  pub above : (p : ℕ) → IsAbove count segments p ↔ ((p < count) × IsWithinAny ranges p)

-- the graph has these edges: of inner segments, of the segments of numbers, and of nodes
pub record IsTree (ranges : List (List Range)) (ends : List (List ℕ))
    (graph : List (List ℕ)) : Type 0 where
  pub inner : (v w : ℕ) → v < length ends → IsEdge graph v w ↔ ((w ≡ 2 * v) ⊎ (w ≡ 2 * v + 1))
  pub leaves : (p w : ℕ) → p < length ends → IsEdge graph (length ends + p) w
      ↔ ((j : ℕ) × (w ≡ 2 * length ends + j) × (j < length ranges)
      × Contains (slice_index_or ends p []) j)
  pub nodes : (i : ℕ) → i < length ranges
      → IsCover (length ends) (slice_index_or ranges i [])
      (slice_index_or graph (2 * length ends + i) [])
  pub length_is : length graph ≡ 2 * length ends + length ranges
