-- Helper definitions for private contracts: edges that end inside a graph.
use Rattle.std.specs.Prelude.{ℕ, List, [], ◌∷◌, flat_map, nat_lt, if◌then◌else◌}

-- the end of an edge, if it is one of `count` nodes
abbrev pub if_inside : ℕ → ℕ → List ℕ
if_inside count end = if nat_lt end count then end ∷ [] else []

-- the ends of edges that are among `count` nodes
abbrev pub ends_inside : ℕ → List ℕ → List ℕ
ends_inside count ends = flat_map (if_inside count) ends
