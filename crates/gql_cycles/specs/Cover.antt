-- Helper definitions for private contracts: a segment tree over numbers, and the segments that
-- cover ranges of them.
use Rattle.std.specs.Prelude.{◌≡◌, ℕ, ◌+◌, ◌*◌, ◌%◌, ◌<◌, ◌≤◌, ◌==◌, List, [], ◌∷◌, Contains, if◌then◌else◌}
use Rattle.gql_cycles.specs.declared.cover.Range.{Range}

-- the number p is below the segment v: v is the segment of p, or p is below one of the two segments
-- below v
pub data Below (count : ℕ) : ℕ → ℕ → Type 0 where
  here : {v p : ℕ} → v ≡ count + p → p < count → Below count v p
  left : {v p : ℕ} → v < count → Below count (2 * v) p → Below count v p
  right : {v p : ℕ} → v < count → Below count (2 * v + 1) p → Below count v p

-- the number is below one of these segments
abbrev pub IsAbove : ℕ → List ℕ → ℕ → Type 0
IsAbove count segments p = (v : ℕ) × Contains segments v × Below count v p

-- the number is within the range
abbrev pub IsWithin : Range → ℕ → Type 0
IsWithin r p = (r.start ≤ p) × (p < r.end)

-- the number is within one of these ranges
abbrev pub IsWithinAny : List Range → ℕ → Type 0
IsWithinAny rs p = (r : Range) × Contains rs r × IsWithin r p

-- the segment if the number is odd, else none
abbrev pub if_odd : ℕ → ℕ → List ℕ
if_odd number segment = if number % 2 == 1 then segment ∷ [] else []
