-- A path that grows, parts that become one, and what is closed.
use Rattle.std.proofs.Common.{◌≡◌, ℕ, ◌+◌, ◌<◌, ◌≤◌, ◌⊎◌, inl, inr, List, [], ◌∷◌, ◌++◌, length, get_or, Contains, Bool, true, false, sym, ◌∙◌, ap, subst, arith}
use Rattle.std.proofs.lemmas.Bool.{cases_eq, cases_lt}
use Rattle.std.proofs.lemmas.List.Elements.{Contains-push, Contains-push_cases, Contains-append_left}
use Rattle.gql_cycles.specs.Nodes.{IsEdge, Trail, edge}
use Rattle.gql_cycles.specs.Path.{Reaches, IsTogether, IsClosed, IsSeen, end_of, Path, KeepsUpTo}
use Rattle.gql_cycles.specs.declared.walk.State.{State}
use Rattle.gql_cycles.specs.declared.walk.State.TheVariants.{New, OnPath, Closed}
use Rattle.gql_cycles.proofs.Rising.{rises_push}
use Rattle.gql_cycles.proofs.Trails.{reach_trail, trail_reach}

-- a state is one of three
pub new_closed : {s : State} {b : Bool} → s ≡ New → s ≡ Closed b → ⊥
new_closed {s} {b} p q = let z : New ≡ Closed b = sym p ∙ q in cc

pub new_on : {s : State} {i : ℕ} → s ≡ New → s ≡ OnPath i → ⊥
new_on {s} {i} p q = let z : New ≡ OnPath i = sym p ∙ q in cc

pub on_closed : {s : State} {i : ℕ} {b : Bool} → s ≡ OnPath i → s ≡ Closed b → ⊥
on_closed {s} {i} {b} p q = let z : OnPath i ≡ Closed b = sym p ∙ q in cc

pub same_on : {s : State} {i j : ℕ} → s ≡ OnPath i → s ≡ OnPath j → i ≡ j
same_on {s} {i} {j} p q = let z : OnPath i ≡ OnPath j = sym p ∙ q in cc

module _ (graph : List (List ℕ)) (state : ℕ → State) (next_edges : ℕ → ℕ) (n : ℕ) (path : ℕ → ℕ) (bounds calls : List ℕ) (w : Path graph state next_edges n path bounds calls) where
  -- a new node, to which all of the path leads
  module _ (v : ℕ) (state' : ℕ → State) (path' : ℕ → ℕ) (is_new : state v ≡ New) (reach : (i : ℕ) → i < n → Trail graph (path i) v) (state_v : state' v ≡ OnPath n) (state_o : (u : ℕ) → (u ≡ v → ⊥) → state' u ≡ state u) (path_n : path' n ≡ v) (path_o : (i : ℕ) → i < n → path' i ≡ path i) where
    other : (u : ℕ) → (state u ≡ New → ⊥) → state' u ≡ state u
    other u h = state_o u (λ e. h (subst (λ x. state x ≡ New) (sym e) is_new))

    still_closed : (u : ℕ) → IsClosed (state u) → IsClosed (state' u)
    still_closed u c = (c.0, other u (λ e. new_closed e c.1) ∙ c.1)

    was_closed : (u : ℕ) (b : Bool) → state' u ≡ Closed b → state u ≡ Closed b
    was_closed u b e = sym (state_o u (λ s. on_closed (subst (λ x. state' x ≡ OnPath n) (sym s) state_v) e)) ∙ e

    enter_there : (u i : ℕ) → state' u ≡ OnPath i → (i < n + 1) × (path' i ≡ u)
    enter_there u i e = elim (cases_eq u v) [
      | inl s ↦
          let q : n ≡ i = same_on (subst (λ x. state' x ≡ OnPath n) (sym s) state_v) e in
          (omega arith, subst (λ k. path' k ≡ u) q (path_n ∙ sym s))
      | inr ne ↦ let t = w.there u i (sym (state_o u ne) ∙ e) in (omega (arith, t.0), path_o i t.0 ∙ t.1)
    ]

    enter_noded : (i : ℕ) → i < n + 1 → state' (path' i) ≡ OnPath i
    enter_noded i lt = elim (cases_lt i n) [
      | inl l ↦
          let p = w.placed i l in
          ap state' (path_o i l) ∙ other (path i) (λ e. new_on e p) ∙ p
      | inr ge ↦ let q : n ≡ i = omega arith in subst (λ k. state' (path' k) ≡ OnPath k) q (ap state' path_n ∙ state_v)
    ]

    enter_forth : (i j : ℕ) → i ≤ j → j < n + 1 → Reaches graph (path' i) (path' j)
    enter_forth i j le lt = elim (cases_lt j n) [
      | inl l ↦
          let li : i < n = omega arith in
          subst (λ x. Reaches graph x (path' j)) (sym (path_o i li)) (subst (λ x. Reaches graph (path i) x) (sym (path_o j l)) (w.forth i j le l))
      | inr ge ↦ elim (cases_lt i n) [
        | inl li ↦
            let q : n ≡ j = omega arith in
            inr (subst (λ x. Trail graph x (path' j)) (sym (path_o i li)) (subst (λ k. Trail graph (path i) (path' k)) q (subst (λ x. Trail graph (path i) x) (sym path_n) (reach i li))))
        | inr gi ↦ let q : i ≡ j = omega arith in inl (ap path' q)
      ]
    ]

    enter_back : (i j : ℕ) → i ≤ j → j < n + 1 → IsTogether (bounds ++ n ∷ []) i j → Reaches graph (path' j) (path' i)
    enter_back i j le lt t = elim (cases_lt j n) [
      | inl l ↦
          let li : i < n = omega arith in
          subst (λ x. Reaches graph x (path' i)) (sym (path_o j l)) (subst (λ x. Reaches graph (path j) x) (sym (path_o i li))
          (w.back i j le l (λ b c. t b (Contains-append_left bounds (n ∷ []) b c))))
      | inr ge ↦ elim (cases_lt i n) [
        | inl li ↦ absurd (t n (Contains-push bounds n) li (omega arith))
        | inr gi ↦ let q : j ≡ i = omega arith in inl (ap path' q)
      ]
    ]

    enter_seen : (i k : ℕ) → i < n + 1 → k < next_edges (path' i) → IsSeen (bounds ++ n ∷ []) i (state' (end_of graph (path' i) k))
    enter_seen i k lt h = elim (cases_lt i n) [
      | inl l ↦
          let e = path_o i l in
          let hk : k < next_edges (path i) = subst (λ x. k < next_edges x) e h in
          subst (λ x. IsSeen (bounds ++ n ∷ []) i (state' (end_of graph x k))) (sym e) (elim (w.seen i k l hk) [
            | inl c ↦ inl (still_closed (end_of graph (path i) k) c)
            | inr p ↦ inr (
              p.0,
              other (end_of graph (path i) k) (λ z. new_on z p.1) ∙ p.1,
              λ b c le. elim (Contains-push_cases bounds n b c) [ inl o ↦ p.2 b o le | inr s ↦ absurd (omega arith) ],
            )
          ])
      | inr ge ↦
          let q : n ≡ i = omega arith in
          let z : next_edges v ≡ 0 = w.fresh v is_new in
          let hk : k < next_edges v = subst (λ x. k < next_edges x) (ap path' (sym q) ∙ path_n) h in
          absurd (omega arith)
    ]

    enter_finished : (i : ℕ) → i < n + 1 → Contains (calls ++ n ∷ []) i ⊎ (length (get_or graph (path' i) []) ≤ next_edges (path' i))
    enter_finished i lt = elim (cases_lt i n) [
      | inl l ↦ elim (w.finished i l) [
        | inl c ↦ inl (Contains-append_left calls (n ∷ []) i c)
        | inr d ↦ inr (subst (λ x. length (get_or graph x []) ≤ next_edges x) (sym (path_o i l)) d)
      ]
      | inr ge ↦ let q : n ≡ i = omega arith in inl (subst (λ k. Contains (calls ++ n ∷ []) k) q (Contains-push calls n))
    ]

    pub entered : Path graph state' next_edges (n + 1) path' (bounds ++ n ∷ []) (calls ++ n ∷ [])
    entered = record {
      there = enter_there;
      placed = enter_noded;
      closed = λ u x c h. still_closed x (w.closed u x (c.0, was_closed u c.0 c.1) h);
      marked = λ u e. w.marked u (was_closed u true e);
      unmarked = λ u e. w.unmarked u (was_closed u false e);
      forth = enter_forth;
      back = enter_back;
      seen = enter_seen;
      finished = enter_finished;
      fresh = λ u e. w.fresh u (sym (state_o u (λ s. new_on e (subst (λ x. state' x ≡ OnPath n) (sym s) state_v))) ∙ e);
      calls_within = λ c h. elim (Contains-push_cases calls n c h) [ inl o ↦ omega (arith, w.calls_within c o) | inr s ↦ omega arith ];
      calls_rise = rises_push calls n w.calls_rise w.calls_within;
      bounds_called = λ b h. elim (Contains-push_cases bounds n b h) [
        | inl o ↦ Contains-append_left calls (n ∷ []) b (w.bounds_called b o)
        | inr s ↦ subst (λ x. Contains (calls ++ n ∷ []) x) s (Contains-push calls n)
      ];
      bounds_rise = rises_push bounds n w.bounds_rise (λ b o. w.calls_within b (w.bounds_called b o));
      begins = λ pos. elim (cases_lt 0 n) [
        | inl l ↦ Contains-append_left bounds (n ∷ []) 0 (w.begins l)
        | inr z ↦ let q : n ≡ 0 = omega arith in subst (λ k. Contains (bounds ++ n ∷ []) k) q (Contains-push bounds n)
      ];
    }

  -- the node that is followed is in the last component
  module _ (q : ℕ) (last_call : (c : ℕ) → Contains calls c → c ≤ q) (is_call : Contains calls q) where
    in_path : q < n
    in_path = w.calls_within q is_call

    above : (b : ℕ) → Contains bounds b → b ≤ q
    above b o = last_call b (w.bounds_called b o)

    pub all_reach : (i : ℕ) → i < n → Reaches graph (path i) (path q)
    all_reach i lt = elim (cases_lt i (q + 1)) [
      | inl l ↦ w.forth i q (omega arith) in_path
      | inr ge ↦ w.back q i (omega arith) lt (λ b o lo hi. let h = above b o in omega arith)
    ]

    -- an edge back to p: what begins after p is one component
    module _ (p : ℕ) (fits : p < n) (back_edge : IsEdge graph (path q) (path p)) (bounds' : List ℕ) (keeps : KeepsUpTo p bounds bounds') where
      to_p : (j : ℕ) → j < n → Trail graph (path j) (path p)
      to_p j lt = reach_trail (all_reach j lt) (edge back_edge)

      back_more : (i j : ℕ) → i ≤ j → j < n → IsTogether bounds' i j → Reaches graph (path j) (path i)
      back_more i j le lt t = elim (cases_lt p j) [
        | inr ge ↦ w.back i j le lt (λ b o lo hi. t b (keeps.kept b o (omega arith)) lo hi)
        | inl l ↦ elim (cases_lt i p) [
          | inr gi ↦ inr (trail_reach (to_p j lt) (w.forth p i gi (omega arith)))
          | inl li ↦ inr (trail_reach (to_p j lt) (w.back i p (omega arith) fits (λ b o lo hi. t b (keeps.kept b o hi) lo (omega arith))))
        ]
      ]

      pub joined : Path graph state next_edges n path bounds' calls
      joined = record {
        there = w.there;
        placed = w.placed;
        closed = w.closed;
        marked = w.marked;
        unmarked = w.unmarked;
        forth = w.forth;
        back = back_more;
        seen = λ i k lt h. elim (w.seen i k lt h) [
          | inl c ↦ inl c
          | inr s ↦ inr (s.0, s.1, λ b o le. s.2 b (keeps.only b o).0 le)
        ];
        finished = w.finished;
        fresh = w.fresh;
        calls_within = w.calls_within;
        calls_rise = w.calls_rise;
        bounds_called = λ b o. w.bounds_called b (keeps.only b o).0;
        bounds_rise = keeps.rises;
        begins = λ pos. keeps.kept 0 (w.begins pos) (omega arith);
      }

  -- one edge more was followed
  module _ (q : ℕ) (in_path : q < n) (next_edges' : ℕ → ℕ) (next_edges_q : next_edges' (path q) ≡ next_edges (path q) + 1) (next_edges_o : (u : ℕ) → (u ≡ path q → ⊥) → next_edges' u ≡ next_edges u) (is_seen : IsSeen bounds q (state (end_of graph (path q) (next_edges (path q))))) where
    more_next_edges : (u : ℕ) → next_edges u ≤ next_edges' u
    more_next_edges u = elim (cases_eq u (path q)) [
      | inl e ↦ subst (λ x. next_edges x ≤ next_edges' x) (sym e) (omega arith)
      | inr ne ↦ let e = next_edges_o u ne in omega arith
    ]

    advance_seen : (i k : ℕ) → i < n → k < next_edges' (path i) → IsSeen bounds i (state (end_of graph (path i) k))
    advance_seen i k lt h = elim (cases_eq (path i) (path q)) [
      | inr ne ↦ w.seen i k lt (let e = next_edges_o (path i) ne in omega arith)
      | inl e ↦
          let s : i ≡ q = same_on (w.placed i lt) (ap state e ∙ w.placed q in_path) in
          let hk : k < next_edges' (path q) = subst (λ x. k < next_edges' x) e h in
          subst (λ x. IsSeen bounds x (state (end_of graph (path x) k))) (sym s) (elim (cases_eq k (next_edges (path q))) [
            | inl z ↦ subst (λ x. IsSeen bounds q (state (end_of graph (path q) x))) (sym z) is_seen
            | inr ne ↦ w.seen q k in_path (omega arith)
          ])
    ]

    pub advanced : Path graph state next_edges' n path bounds calls
    advanced = record {
      there = w.there;
      placed = w.placed;
      closed = w.closed;
      marked = w.marked;
      unmarked = w.unmarked;
      forth = w.forth;
      back = w.back;
      seen = advance_seen;
      finished = λ i lt. elim (w.finished i lt) [ inl c ↦ inl c | inr d ↦ inr (let h = more_next_edges (path i) in omega arith) ];
      fresh = λ u e. next_edges_o u (λ s. new_on (subst (λ x. state x ≡ New) s e) (w.placed q in_path)) ∙ w.fresh u e;
      calls_within = w.calls_within;
      calls_rise = w.calls_rise;
      bounds_called = w.bounds_called;
      bounds_rise = w.bounds_rise;
      begins = w.begins;
    }
