-- Trails of nodes are leads of names.
use Rattle.std.proofs.Common.{◌≡◌, ℕ, ◌↔◌, List, [], map, get_or, Contains, Option, Some, Bool, sym, ◌∙◌, ap, subst}
use Rattle.gql_cycles.specs.Names.{Steps, IsStep, Leads, one, more}
use Rattle.gql_cycles.specs.Nodes.{IsEdge, Trail, edge, next, MarksCycles}
use Rattle.gql_cycles.specs.NameGraph.{names_of, IsNodeOf, Nodes, Joins, IsMarked, MarksApart}
use Rattle.gql_cycles.proofs.Members.{Contains-map}

module _ (rows : List Steps) (node : List ℕ → Option ℕ) (graph : List (List ℕ)) (nodes : Nodes (names_of rows) node) (joins : Joins node rows graph) where
  stepped : (i j : ℕ) (a : List ℕ) → IsNodeOf (names_of rows) i a → IsEdge graph i j → (b : List ℕ) × IsStep rows a b × (node b ≡ Some j)
  stepped i j a p h =
      let r = joins.sound i j h in
      let t = nodes.there r.0.name i r.2.1 in
      (r.2.0, (r.0, r.1, sym t.1 ∙ p.1, r.2.2), r.2.3)

  leads_from : {i j : ℕ} → Trail graph i j → (a b : List ℕ) → IsNodeOf (names_of rows) i a → IsNodeOf (names_of rows) j b → Leads rows a b
  leads_from (edge {i} {j} h) a b p q =
      let s = stepped i j a p h in
      let t = nodes.there s.0 j s.2 in
      one (subst (λ c. IsStep rows a c) (sym t.1 ∙ q.1) s.1)
  leads_from (next {i} {j} {k} h t) a b p q =
      let s = stepped i j a p h in
      more s.1 (leads_from t s.0 b (nodes.there s.0 j s.2) q)

  -- a node from which an edge leads is the node of its name
  edge_node : (i j : ℕ) → IsEdge graph i j → node (get_or (names_of rows) i []) ≡ Some i
  edge_node i j h =
      let r = joins.sound i j h in
      let t = nodes.there r.0.name i r.2.1 in
      subst (λ q. node q ≡ Some i) (sym t.1) r.2.1

  trail_node : {i j : ℕ} → Trail graph i j → node (get_or (names_of rows) i []) ≡ Some i
  trail_node (edge {i} {j} h) = edge_node i j h
  trail_node (next {i} {j} {k} h t) = edge_node i j h

  has_node : (a b : List ℕ) → IsStep rows a b → (i : ℕ) × (node a ≡ Some i)
  has_node a b s = nodes.each a (subst (λ c. Contains (names_of rows) c) s.2 (Contains-map (λ r. r.name) rows s.0 s.1))

  starts : {a b : List ℕ} → Leads rows a b → (i : ℕ) × (node a ≡ Some i)
  starts (one {a} {b} s) = has_node a b s
  starts (more {a} {b} {c} s t) = has_node a b s

  joined : (a b : List ℕ) (i j : ℕ) → IsStep rows a b → node a ≡ Some i → node b ≡ Some j → IsEdge graph i j
  joined a b i j s p q = joins.complete s.0 i j s.1 (b, subst (λ c. node c ≡ Some i) (sym s.2) p, s.3, q)

  trail_from : {a b : List ℕ} → Leads rows a b → (i j : ℕ) → node a ≡ Some i → node b ≡ Some j → Trail graph i j
  trail_from (one {a} {b} s) i j p q = edge (joined a b i j s p q)
  trail_from (more {a} {b} {c} s t) i j p q =
      let m = starts t in
      next (joined a b i m.0 s p m.1) (trail_from t m.0 j m.1 q)

  module _ (marks : List Bool) (marked : MarksCycles graph marks) where
    pub answer_apart : MarksApart (names_of rows) marks
    answer_apart i j mi mj e =
        let a = trail_node (marked.sound i mi) in
        let b = trail_node (marked.sound j mj) in
        let s : Some i ≡ Some j = sym a ∙ ap node e ∙ b in
        cc

    module _ (names : List (List ℕ)) (found : (q : List ℕ) → Contains names q ↔ IsMarked (names_of rows) marks q) where
      pub answer_sound : (n : List ℕ) → Contains names n → Leads rows n n
      answer_sound n c =
          let m = (found n).0 c in
          leads_from (marked.sound m.0 m.2) n n m.1 m.1

      pub answer_complete : (n : List ℕ) → Leads rows n n → Contains names n
      answer_complete n h =
          let s = starts h in
          (found n).1 (s.0, nodes.there n s.0 s.1, marked.complete s.0 (trail_from h s.0 s.0 s.1 s.1))

-- the same, as the clauses of the calls give it
pub answer : {V : Type 0} (f : V → List ℕ) (rows : List Steps) (node : List ℕ → Option ℕ) (edges edges' : List V) (marks marks' : List Bool) (names : List (List ℕ)) →
    Nodes (names_of rows) node → Joins node rows (map f edges) → edges' ≡ edges → MarksCycles (map f edges') marks → marks' ≡ marks →
    ((q : List ℕ) → Contains names q ↔ IsMarked (names_of rows) marks' q) → (n : List ℕ) → Contains names n ↔ Leads rows n n
answer f rows node edges edges' marks marks' names p j e m s found n =
    let marked : MarksCycles (map f edges) marks = subst (λ es. MarksCycles (map f es) marks) e m in
    let at_marks : (q : List ℕ) → Contains names q ↔ IsMarked (names_of rows) marks q = subst (λ ms. (q : List ℕ) → Contains names q ↔ IsMarked (names_of rows) ms q) s found in
    (answer_sound rows node (map f edges) p j marks marked names at_marks n, answer_complete rows node (map f edges) p j marks marked names at_marks n)

pub marks_apart : {V : Type 0} (f : V → List ℕ) (rows : List Steps) (node : List ℕ → Option ℕ) (edges edges' : List V) (marks marks' : List Bool) →
    Nodes (names_of rows) node → Joins node rows (map f edges) → edges' ≡ edges → MarksCycles (map f edges') marks → marks' ≡ marks → MarksApart (names_of rows) marks'
marks_apart f rows node edges edges' marks marks' p j e m s =
    let marked : MarksCycles (map f edges) marks = subst (λ es. MarksCycles (map f es) marks) e m in
    subst (λ ms. MarksApart (names_of rows) ms) (sym s) (answer_apart rows node (map f edges) p j marks marked)
