-- Helper definitions for private contracts: a walk along edges, its path, and which nodes it has
-- closed.
use Rattle.std.specs.Prelude.{◌≡◌, ℕ, ◌+◌, ◌-◌, ◌*◌, ◌<◌, ◌≤◌, ◌⊎◌, List, [], ◌∷◌, Bool, true, false, cond, nat_lt, length, slice_index_or, Contains}
use Rattle.gql_cycles.specs.Nodes.{IsEdge, Trail}
use Rattle.gql_cycles.specs.declared.walk.State.{State}
use Rattle.gql_cycles.specs.declared.walk.State.TheVariants.{New, OnPath, Closed}
use Rattle.gql_cycles.specs.declared.walk.Walk.{Walk}

-- each number is less than the later ones
abbrev pub Rises : List ℕ → Type 0
Rises xs = (i j : ℕ) → i < j → j < length xs → slice_index_or xs i 0 < slice_index_or xs j 0

-- there is a trail from a to b, or they are the same node
abbrev pub Reaches : List (List ℕ) → ℕ → ℕ → Type 0
Reaches graph a b = (a ≡ b) ⊎ Trail graph a b

-- no component begins after position i and up to position j
abbrev pub IsTogether : List ℕ → ℕ → ℕ → Type 0
IsTogether bounds i j = (b : ℕ) → Contains bounds b → i < b → b ≤ j → ⊥

-- the node is closed: the walk has followed all edges that can be reached from it
abbrev pub IsClosed : State → Type 0
IsClosed s = (c : Bool) × (s ≡ Closed c)

-- the node is closed, or it is on the path, and not before the component of position i
abbrev pub IsSeen : List ℕ → ℕ → State → Type 0
IsSeen bounds i s = IsClosed s
    ⊎ ((j : ℕ) × (s ≡ OnPath j) × ((b : ℕ) → Contains bounds b → b ≤ i → b ≤ j))

-- the node at which the k-th edge of v ends
abbrev pub end_of : List (List ℕ) → ℕ → ℕ → ℕ
end_of graph v k = slice_index_or (slice_index_or graph v []) k 0

-- A path of `size` nodes. `bounds` has the positions at which its components begin, and `calls`
-- those whose edges are still to be followed.
pub record Path (graph : List (List ℕ)) (state : ℕ → State) (next_edges : ℕ
    → ℕ) (size : ℕ) (path : ℕ → ℕ) (bounds calls : List ℕ) : Type 0 where
  -- a node is at a position of the path exactly if its state says so
  pub there : (v i : ℕ) → state v ≡ OnPath i → (i < size) × (path i ≡ v)
  pub placed : (i : ℕ) → i < size → state (path i) ≡ OnPath i
  -- a closed node leads to closed nodes only, and its mark is right
  pub closed : (v w : ℕ) → IsClosed (state v) → IsEdge graph v w → IsClosed (state w)
  pub marked : (v : ℕ) → state v ≡ Closed true → Trail graph v v
  pub unmarked : (v : ℕ) → state v ≡ Closed false → Trail graph v v → ⊥
  -- the path leads forth, and back within each component
  pub forth : (i j : ℕ) → i ≤ j → j < size → Reaches graph (path i) (path j)
  pub back : (i j : ℕ) → i ≤ j → j < size → IsTogether bounds i j → Reaches graph (path j) (path i)
  -- the edges that were followed, and those still to be followed
  pub seen : (i k : ℕ) → i < size → k < next_edges (path i)
      → IsSeen bounds i (state (end_of graph (path i) k))
  pub finished : (i : ℕ) → i < size → Contains calls i
      ⊎ (length (slice_index_or graph (path i) []) ≤ next_edges (path i))
  pub fresh : (v : ℕ) → state v ≡ New → next_edges v ≡ 0
  -- both lists rise, the first node of each component is in `calls`, and the first component
  -- begins at 0
  pub calls_within : (c : ℕ) → Contains calls c → c < size
  pub calls_rise : Rises calls
  pub bounds_called : (b : ℕ) → Contains bounds b → Contains calls b
  pub bounds_rise : Rises bounds
  pub begins : 0 < size → Contains bounds 0

-- the lists of a walk are such a path
pub record IsWalk (graph : List (List ℕ)) (walk : Walk) : Type 0 where
  pub states_are : length walk.states.items ≡ length graph
  pub next_edges_are : length walk.next_edges.items ≡ length graph
  pub path : Path graph (λ v. slice_index_or walk.states.items v New)
      (λ v. slice_index_or walk.next_edges.items v 0)
      (length walk.path.items)
      (λ i. slice_index_or walk.path.items i 0) walk.bounds.items walk.calls.items

-- the new list has exactly the numbers of the old one up to n, in their order
pub record KeepsUpTo (n : ℕ) (old new : List ℕ) : Type 0 where
  pub kept : (b : ℕ) → Contains old b → b ≤ n → Contains new b
  pub only : (b : ℕ) → Contains new b → Contains old b × (b ≤ n)
  pub rises : Rises new

-- the state of a node after the path was closed from a position on
abbrev pub closed_from : ℕ → Bool → State → State
closed_from start mark New = New
closed_from start mark (OnPath i) = cond (nat_lt i start) (OnPath i) (Closed mark)
closed_from start mark (Closed c) = Closed c

-- the last number of the list is x
abbrev pub Ends : List ℕ → ℕ → Type 0
Ends xs x = (0 < length xs) × (slice_index_or xs (length xs - 1) 0 ≡ x)

-- a node that was met stays met
abbrev pub KeepsMet : Walk → Walk → Type 0
KeepsMet old new = (v : ℕ) → slice_index_or new.states.items v New ≡ New
    → slice_index_or old.states.items v New ≡ New

-- a step has met the end of an edge from this position of the path
pub record Meets (graph : List (List ℕ)) (at end : ℕ) (old new : Walk) : Type 0 where
  pub walk : IsWalk graph new
  pub next_edges_is : new.next_edges.items ≡ old.next_edges.items
  pub is_inside : at < length new.path.items
  pub path_at : slice_index_or new.path.items at 0 ≡ slice_index_or old.path.items at 0
  pub seen : IsSeen new.bounds.items at (slice_index_or new.states.items end New)
  pub met : KeepsMet old new
  pub calls_grow : length new.calls.items ≤ length old.calls.items + 1

-- whether a state is that of a node on a cycle
abbrev pub is_marked : State → Bool
is_marked New = false
is_marked (OnPath i) = false
is_marked (Closed mark) = mark

-- how many edges are still to be followed
unfoldable pub remaining : List (List ℕ) → List ℕ → ℕ
remaining [] next_edges = 0
remaining (out ∷ graph) [] = 0
remaining (out ∷ graph) (n ∷ next_edges) = (length out - n) + remaining graph next_edges

-- how much is left to do: each edge counts two, since following it may add a call
unfoldable pub left : List (List ℕ) → Walk → ℕ
left graph walk = 2 * remaining graph walk.next_edges.items + length walk.calls.items

-- the new walk has less left to do than the old one
pub record Advances (graph : List (List ℕ)) (old new : Walk) : Type 0 where
  pub walk : IsWalk graph new
  pub met : KeepsMet old new
  pub falls : left graph new < left graph old
