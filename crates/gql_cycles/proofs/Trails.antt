-- Edges by their positions, and trails one after another.
use Rattle.std.proofs.Common.{◌≡◌, ℕ, ◌<◌, inl, inr, List, [], length, get_or, Contains, sym, ◌∙◌, subst}
use Rattle.std.proofs.lemmas.Bool.{cases_lt}
use Rattle.std.proofs.lemmas.List.{get_or_default, get_or_past}
use Rattle.gql_cycles.specs.Nodes.{IsEdge, Trail, edge, next}
use Rattle.gql_cycles.specs.Path.{Reaches, end_of}
use Rattle.gql_cycles.proofs.Members.{Contains-nil}

-- an edge begins within the graph
begins : (graph : List (List ℕ)) (i j : ℕ) → IsEdge graph i j → i < length graph
begins graph i j h = elim (cases_lt i (length graph)) [
  | inl lt ↦ lt
  | inr ge ↦ absurd (Contains-nil j (subst (λ xs. Contains xs j) (get_or_past graph i [] ge) h))
]

pub trail_begins : (graph : List (List ℕ)) {i j : ℕ} → Trail graph i j → i < length graph
trail_begins graph (edge {i} {j} h) = begins graph i j h
trail_begins graph (next {i} {j} {k} h t) = begins graph i j h

pub trail_join : {graph : List (List ℕ)} {i j k : ℕ} → Trail graph i j → Trail graph j k → Trail graph i k
trail_join (edge h) t = next h t
trail_join (next h s) t = next h (trail_join s t)

pub reach_trail : {graph : List (List ℕ)} {i j k : ℕ} → Reaches graph i j → Trail graph j k → Trail graph i k
reach_trail {graph} {i} {j} {k} r t = elim r [ inl e ↦ subst (λ v. Trail graph v k) (sym e) t | inr s ↦ trail_join s t ]

pub trail_reach : {graph : List (List ℕ)} {i j k : ℕ} → Trail graph i j → Reaches graph j k → Trail graph i k
trail_reach {graph} {i} {j} {k} t r = elim r [ inl e ↦ subst (λ v. Trail graph i v) e t | inr s ↦ trail_join t s ]

pub reach_apart : {graph : List (List ℕ)} {i j : ℕ} → (i ≡ j → ⊥) → Reaches graph i j → Trail graph i j
reach_apart ne r = elim r [ inl e ↦ absurd (ne e) | inr t ↦ t ]

-- the number of an edge
pub at_edge : (graph : List (List ℕ)) (v w : ℕ) → IsEdge graph v w → (k : ℕ) × (k < length (get_or graph v [])) × (end_of graph v k ≡ w)
at_edge graph v w h = (h.0, h.1, get_or_default (get_or graph v []) h.0 0 w h.1 ∙ h.2)
