-- Helper definitions for private contracts: the graph of names, with a node for each name.
use Rattle.std.specs.Prelude.{◌≡◌, ◌≢◌, ℕ, ◌<◌, ◌⊎◌, List, [], Bool, true, false, Option, Some, length, map, slice_index_or, Contains}
use Rattle.std.specs.List.{AllPairs}
use Rattle.gql_cycles.specs.Names.{Steps}
use Rattle.gql_cycles.specs.Nodes.{IsEdge}

-- the names of the rows
abbrev pub names_of : List Steps → List (List ℕ)
names_of rows = map (λ r. r.name) rows

-- the node i has the name q
abbrev pub IsNodeOf : List (List ℕ) → ℕ → List ℕ → Type 0
IsNodeOf names i q = (i < length names) × (slice_index_or names i [] ≡ q)

-- each of the names has one node
pub record Nodes (names : List (List ℕ)) (node : List ℕ → Option ℕ) : Type 0 where
  pub there : (q : List ℕ) (i : ℕ) → node q ≡ Some i → IsNodeOf names i q
  pub each : (q : List ℕ) → Contains names q → (i : ℕ) × (node q ≡ Some i)

-- an edge from the node of a row to the node of a name to which it leads
abbrev pub RowJoins : (List ℕ → Option ℕ) → Steps → ℕ → ℕ → Type 0
RowJoins node row i j = (b : List ℕ) × (node row.name ≡ Some i) × Contains row.leads b
    × (node b ≡ Some j)

-- the edges of the graph are exactly those that the rows make
pub record Joins (node : List ℕ
    → Option ℕ) (rows : List Steps) (graph : List (List ℕ)) : Type 0 where
  pub sound : (i j : ℕ) → IsEdge graph i j → (r : Steps) × Contains rows r × RowJoins node r i j
  pub complete : (r : Steps) (i j : ℕ) → Contains rows r → RowJoins node r i j → IsEdge graph i j

-- the new graph has the edges of the old one and those of the row
pub record AddsRow (node : List ℕ → Option ℕ) (row : Steps) (old new : List (List ℕ)) : Type 0 where
  pub length_is : length new ≡ length old
  pub kept : (i j : ℕ) → IsEdge old i j → IsEdge new i j
  pub added : (i j : ℕ) → RowJoins node row i j → IsEdge new i j
  pub only : (i j : ℕ) → IsEdge new i j → IsEdge old i j ⊎ RowJoins node row i j

-- at most one node of each name is marked
abbrev pub MarksApart : List (List ℕ) → List Bool → Type 0
MarksApart names marks = (i j : ℕ) → slice_index_or marks i false ≡ true
    → slice_index_or marks j false ≡ true → slice_index_or names i [] ≡ slice_index_or names j []
    → i ≡ j

-- no two names are equal
abbrev pub AreApart : List (List ℕ) → Type 0
AreApart names = AllPairs (λ a b. a ≢ b) names

-- a marked node has the name q
abbrev pub IsMarked : List (List ℕ) → List Bool → List ℕ → Type 0
IsMarked names marks q = (i : ℕ) × IsNodeOf names i q × (slice_index_or marks i false ≡ true)
