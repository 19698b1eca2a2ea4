-- Nodes that lead to ranges of numbers, and numbers that lead to nodes.
use Rattle.std.specs.Prelude.{ℕ, List, [], slice_index_or, Contains}
use Rattle.gql_cycles.specs.Cover.{IsWithinAny}
use Rattle.gql_cycles.specs.declared.cover.Range.{Range}

-- the node i leads to the node j by the number p, which is within a range of i and leads to j
abbrev pub LeadsBy : List (List Range) → List (List ℕ) → ℕ → ℕ → ℕ → Type 0
LeadsBy ranges ends i p j =
    IsWithinAny (slice_index_or ranges i []) p × Contains (slice_index_or ends p []) j

-- the node i leads to the node j by some number
abbrev pub IsRangeEdge : List (List Range) → List (List ℕ) → ℕ → ℕ → Type 0
IsRangeEdge ranges ends i j = (p : ℕ) × LeadsBy ranges ends i p j

-- there is a trail from a node to another: one or more of these edges, one after another
pub data RangeTrail (ranges : List (List Range)) (ends : List (List ℕ)) : ℕ → ℕ → Type 0 where
  range_edge : {i j : ℕ} → IsRangeEdge ranges ends i j → RangeTrail ranges ends i j
  range_next : {i j k : ℕ} → IsRangeEdge ranges ends i j → RangeTrail ranges ends j k
      → RangeTrail ranges ends i k
