-- Cycles are inside a graph, and marked nodes one by one.
use Rattle.std.proofs.Common.{◌≡◌, ℕ, ◌+◌, ◌<◌, ◌≤◌, inl, inr, ◌↔◌, List, [], ◌∷◌, ◌++◌, map, length, get_or, Contains, Bool, true, false, cond, nat_lt, sym, ◌∙◌, ap, subst, refl, arith}
use Rattle.std.proofs.lemmas.Bool.{cases_eq, cases_lt, lt-ltb}
use Rattle.std.proofs.lemmas.Bool.Decides.{nat_tests}
use Rattle.std.proofs.lemmas.List.{get_or-map, get_or_past, length-map}
use Rattle.std.proofs.lemmas.List.Elements.{Contains-push, Contains-push_cases, Contains-append_left}
use Rattle.gql_cycles.specs.Nodes.{IsEdge, IsGraph, Trail, edge, next, MarksCycles}
use Rattle.gql_cycles.specs.Inside.{if_inside, ends_inside}
use Rattle.gql_cycles.specs.Path.{Rises}
use Rattle.gql_cycles.proofs.Members.{Contains-nil, Contains-here, Contains-cases, Contains-flat_map, Contains-flat_map_from}
use Rattle.gql_cycles.proofs.Rising.{rises_push}
use Rattle.gql_cycles.proofs.Trails.{trail_begins}

-- an end that is kept
kept_is : (count end j : ℕ) (b : Bool) → nat_lt end count ≡ b → Contains (cond b (end ∷ []) []) j → (end ≡ j) × (j < count)
kept_is count end j true e h = elim (Contains-cases j end [] h) [
  | inl s ↦ let lt : end < count = grind (arith, nat_tests, e) in (sym s, omega (arith, lt, s))
  | inr n ↦ absurd (Contains-nil j n)
]
kept_is count end j false e h = absurd (Contains-nil j h)

kept : (count j : ℕ) → j < count → Contains (if_inside count j) j
kept count j lt = let t = lt-ltb j count lt in rw t (Contains-here j [])

pub inside_from : (count : ℕ) (ends : List ℕ) (j : ℕ) → Contains (ends_inside count ends) j → Contains ends j × (j < count)
inside_from count ends j h =
    let r = Contains-flat_map_from (if_inside count) ends j h in
    let k = kept_is count r.0 j (nat_lt r.0 count) refl r.2 in
    (subst (λ e. Contains ends e) k.0 r.1, k.1)

pub inside_of : (count : ℕ) (ends : List ℕ) (j : ℕ) → Contains ends j → j < count → Contains (ends_inside count ends) j
inside_of count ends j h lt = Contains-flat_map (if_inside count) ends j j h (kept count j lt)

module _ (graph : List (List ℕ)) (n : ℕ) (whole : n ≡ length graph) where
  abbrev pub within : List (List ℕ)
  within = map (ends_inside n) graph

  at_node : (i : ℕ) → get_or within i [] ≡ ends_inside n (get_or graph i [])
  at_node i = elim (cases_lt i (length graph)) [
    | inl lt ↦ get_or-map (ends_inside n) graph i [] [] lt
    | inr ge ↦ get_or_past within i [] (omega (arith, ge, length-map graph (ends_inside n))) ∙ sym (ap (ends_inside n) (get_or_past graph i [] ge))
  ]

  edge_from : (i j : ℕ) → IsEdge within i j → IsEdge graph i j × (j < n)
  edge_from i j h = inside_from n (get_or graph i []) j (subst (λ xs. Contains xs j) (at_node i) h)

  edge_of : (i j : ℕ) → IsEdge graph i j → j < n → IsEdge within i j
  edge_of i j h lt = subst (λ xs. Contains xs j) (sym (at_node i)) (inside_of n (get_or graph i []) j h lt)

  pub is_graph : IsGraph within
  is_graph i j h = omega (arith, (edge_from i j h).1, whole, length-map graph (ends_inside n))

  trail_from : {i j : ℕ} → Trail within i j → Trail graph i j
  trail_from (edge {i} {j} h) = edge (edge_from i j h).0
  trail_from (next {i} {j} {k} h t) = next (edge_from i j h).0 (trail_from t)

  -- a trail that ends inside is inside
  trail_of : {i j : ℕ} → Trail graph i j → j < n → Trail within i j
  trail_of (edge {i} {j} h) lt = edge (edge_of i j h lt)
  trail_of (next {i} {j} {k} h t) lt = next (edge_of i j h (omega (arith, trail_begins graph t, whole))) (trail_of t lt)

  -- the same, as the clauses of the calls give it
  pub cycles_are : (inside : List (List ℕ)) → inside ≡ map (ends_inside n) graph → (marks marks' : List Bool) → MarksCycles inside marks → marks' ≡ marks →
      (nodes : List ℕ) → ((i : ℕ) → Contains nodes i ↔ (get_or marks' i false ≡ true)) → (i : ℕ) → Contains nodes i ↔ Trail graph i i
  cycles_are inside is marks marks' m s nodes found i =
      let marked : MarksCycles within marks = subst (λ g. MarksCycles g marks) is m in
      let at_marks : Contains nodes i ↔ (get_or marks i false ≡ true) = subst (λ ms. Contains nodes i ↔ (get_or ms i false ≡ true)) s (found i) in
      (λ h. trail_from (marked.sound i (at_marks.0 h)), λ t. at_marks.1 (marked.complete i (trail_of t (omega (arith, trail_begins graph t, whole)))))

-- one mark more
module _ (marks : List Bool) (nodes : List ℕ) (n : ℕ) (w : (i : ℕ) → Contains nodes i ↔ ((i < n) × (get_or marks i false ≡ true))) where
  pub marked_more : get_or marks n false ≡ true → (i : ℕ) → Contains (nodes ++ n ∷ []) i ↔ ((i < n + 1) × (get_or marks i false ≡ true))
  marked_more t i = (
    λ c. elim (Contains-push_cases nodes n i c) [
      | inl o ↦ let m = (w i).0 o in (omega (arith, m.0), m.1)
      | inr e ↦ (omega (arith, e), subst (λ k. get_or marks k false ≡ true) e t)
    ],
    λ m. elim (cases_eq i n) [
      | inl e ↦ subst (λ k. Contains (nodes ++ n ∷ []) k) (sym e) (Contains-push nodes n)
      | inr ne ↦ Contains-append_left nodes (n ∷ []) i ((w i).1 (omega (arith, m.0, ne), m.1))
    ],
  )

  pub rises_more : Rises nodes → Rises (nodes ++ n ∷ [])
  rises_more r = rises_push nodes n r (λ x c. ((w x).0 c).0)

  pub marked_other : get_or marks n false ≡ false → (i : ℕ) → Contains nodes i ↔ ((i < n + 1) × (get_or marks i false ≡ true))
  marked_other f i = (
    λ c. let m = (w i).0 c in (omega (arith, m.0), m.1),
    λ m. elim (cases_eq i n) [
      | inl e ↦
          let t : get_or marks n false ≡ true = subst (λ k. get_or marks k false ≡ true) e m.1 in
          absurd (cc)
      | inr ne ↦ (w i).1 (omega (arith, m.0, ne), m.1)
    ],
  )

  pub marked_all : length marks ≤ n → (i : ℕ) → Contains nodes i ↔ (get_or marks i false ≡ true)
  marked_all le i = (
    λ c. ((w i).0 c).1,
    λ t. elim (cases_lt i n) [
      | inl lt ↦ (w i).1 (lt, t)
      | inr ge ↦ let f : get_or marks i false ≡ false = get_or_past marks i false (omega arith) in absurd (cc)
    ],
  )
