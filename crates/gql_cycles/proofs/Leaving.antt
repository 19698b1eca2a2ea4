-- A node all of whose edges were followed is left, and a component is closed.
use Rattle.std.proofs.Common.{◌≡◌, ℕ, ◌+◌, ◌<◌, ◌≤◌, ◌⊎◌, inl, inr, List, [], ◌∷◌, ◌++◌, length, get_or, Contains, Bool, true, false, sym, ◌∙◌, ap, subst, refl, arith}
use Rattle.std.proofs.lemmas.Bool.{cases_lt, lt-ltb, le-ltb}
use Rattle.std.proofs.lemmas.List.Elements.{Contains-push, Contains-push_cases, Contains-append_left}
use Rattle.gql_cycles.specs.Nodes.{IsEdge, Trail, edge, next}
use Rattle.gql_cycles.specs.Path.{Reaches, IsTogether, IsClosed, IsSeen, end_of, Path, closed_from}
use Rattle.gql_cycles.specs.declared.walk.State.{State}
use Rattle.gql_cycles.specs.declared.walk.State.TheVariants.{New, OnPath, Closed}
use Rattle.gql_cycles.proofs.Rising.{rises_pop, rises_last}
use Rattle.gql_cycles.proofs.Trails.{trail_join, reach_apart, at_edge}
use Rattle.gql_cycles.proofs.Walking.{on_closed, same_on}

module _ (graph : List (List ℕ)) (state : ℕ → State) (next_edges : ℕ → ℕ) (n : ℕ) (path : ℕ → ℕ) (bounds calls : List ℕ) (q : ℕ) (w : Path graph state next_edges n path bounds (calls ++ q ∷ [])) (done : length (get_or graph (path q) []) ≤ next_edges (path q)) where
  -- where no component begins there
  pub left_alone : ((b : ℕ) → Contains bounds b → b ≡ q → ⊥) → Path graph state next_edges n path bounds calls
  left_alone none = record {
    there = w.there;
    placed = w.placed;
    closed = w.closed;
    marked = w.marked;
    unmarked = w.unmarked;
    forth = w.forth;
    back = w.back;
    seen = w.seen;
    finished = λ i lt. elim (w.finished i lt) [
      | inl c ↦ elim (Contains-push_cases calls q i c) [ inl o ↦ inl o | inr s ↦ inr (subst (λ k. length (get_or graph (path k) []) ≤ next_edges (path k)) s done) ]
      | inr d ↦ inr d
    ];
    fresh = w.fresh;
    calls_within = λ c o. w.calls_within c (Contains-append_left calls (q ∷ []) c o);
    calls_rise = rises_pop calls q w.calls_rise;
    bounds_called = λ b o. elim (Contains-push_cases calls q b (w.bounds_called b o)) [ inl c ↦ c | inr s ↦ absurd (none b o (sym s)) ];
    bounds_rise = w.bounds_rise;
    begins = w.begins;
  }

-- how a state is after the path was closed
module _ (start : ℕ) (mark : Bool) where
  pub closed_new : (s : State) → closed_from start mark s ≡ New → s ≡ New
  closed_new New e = refl
  closed_new (OnPath i) e = elim (cases_lt i start) [
    | inl l ↦ let t = lt-ltb i start l in let z : OnPath i ≡ New = rw t at e in cc
    | inr g ↦ let t = le-ltb i start g in let z : Closed mark ≡ New = rw t at e in cc
  ]
  closed_new (Closed c) e = cc

  closed_on : (s : State) (i : ℕ) → closed_from start mark s ≡ OnPath i → (s ≡ OnPath i) × (i < start)
  closed_on New i e = cc
  closed_on (OnPath j) i e = elim (cases_lt j start) [
    | inl l ↦ let t = lt-ltb j start l in let z : OnPath j ≡ OnPath i = rw t at e in let y : j ≡ i = cc in (z, omega arith)
    | inr g ↦ let t = le-ltb j start g in let z : Closed mark ≡ OnPath i = rw t at e in cc
  ]
  closed_on (Closed c) i e = cc

  closed_closed : (s : State) (b : Bool) → closed_from start mark s ≡ Closed b → (s ≡ Closed b) ⊎ ((i : ℕ) × (s ≡ OnPath i) × (start ≤ i) × (b ≡ mark))
  closed_closed New b e = cc
  closed_closed (OnPath j) b e = elim (cases_lt j start) [
    | inl l ↦ let t = lt-ltb j start l in let z : OnPath j ≡ Closed b = rw t at e in cc
    | inr g ↦ let t = le-ltb j start g in let z : Closed mark ≡ Closed b = rw t at e in let y : b ≡ mark = cc in inr (j, refl, g, y)
  ]
  closed_closed (Closed c) b e = inl e

  from_below : (s : State) (i : ℕ) → s ≡ OnPath i → i < start → closed_from start mark s ≡ OnPath i
  from_below s i e l = let t = lt-ltb i start l in subst (λ x. closed_from start mark x ≡ OnPath i) (sym e) (rw t refl)

  from_above : (s : State) (i : ℕ) → s ≡ OnPath i → start ≤ i → closed_from start mark s ≡ Closed mark
  from_above s i e g = let t = le-ltb i start g in subst (λ x. closed_from start mark x ≡ Closed mark) (sym e) (rw t refl)

  from_closed : (s : State) → IsClosed s → IsClosed (closed_from start mark s)
  from_closed s c = subst (λ x. IsClosed (closed_from start mark x)) (sym c.1) (c.0, refl)

-- the last component begins at q, whose edges were all followed: it is closed
module _ (graph : List (List ℕ)) (state : ℕ → State) (next_edges : ℕ → ℕ) (n : ℕ) (path : ℕ → ℕ) (bounds calls : List ℕ) (q : ℕ) (w : Path graph state next_edges n path (bounds ++ q ∷ []) (calls ++ q ∷ [])) (done : length (get_or graph (path q) []) ≤ next_edges (path q)) (mark : Bool)
    (long : mark ≡ true → (q + 1 < n) ⊎ IsEdge graph (path q) (path q))
    (short : mark ≡ false → (n ≤ q + 1) × (IsEdge graph (path q) (path q) → ⊥))
    (state' : ℕ → State) (state_is : (v : ℕ) → state' v ≡ closed_from q mark (state v)) (path' : ℕ → ℕ) (path_is : (i : ℕ) → i < q → path' i ≡ path i) where
  in_path : q < n
  in_path = w.calls_within q (Contains-push calls q)

  all_next_edges : (i : ℕ) → q ≤ i → i < n → length (get_or graph (path i) []) ≤ next_edges (path i)
  all_next_edges i le lt = elim (w.finished i lt) [
    | inr d ↦ d
    | inl c ↦ elim (Contains-push_cases calls q i c) [
      | inl o ↦ let h = rises_last calls q w.calls_rise i o in absurd (omega arith)
      | inr s ↦ subst (λ k. length (get_or graph (path k) []) ≤ next_edges (path k)) s done
    ]
  ]

  -- what the component leads to
  ends : (i u : ℕ) → q ≤ i → i < n → IsEdge graph (path i) u → IsClosed (state u) ⊎ ((j : ℕ) × (state u ≡ OnPath j) × (q ≤ j))
  ends i u le lt h =
      let e = at_edge graph (path i) u h in
      let l : e.0 < next_edges (path i) = omega (arith, e.1, all_next_edges i le lt) in
      subst (λ x. IsClosed (state x) ⊎ ((j : ℕ) × (state x ≡ OnPath j) × (q ≤ j))) e.2 (elim (w.seen i e.0 lt l) [
        | inl c ↦ inl c
        | inr s ↦ inr (s.0, s.1, s.2 q (Contains-push bounds q) le)
      ])

  now : (v : ℕ) → IsClosed (state v) → IsClosed (state' v)
  now v c = subst (λ s. IsClosed s) (sym (state_is v)) (from_closed q mark (state v) c)

  now_above : (v i : ℕ) → state v ≡ OnPath i → q ≤ i → IsClosed (state' v)
  now_above v i e le = (mark, state_is v ∙ from_above q mark (state v) i e le)

  close_closed : (v u : ℕ) → IsClosed (state' v) → IsEdge graph v u → IsClosed (state' u)
  close_closed v u c h = elim (closed_closed q mark (state v) c.0 (sym (state_is v) ∙ c.1)) [
    | inl o ↦ now u (w.closed v u (c.0, o) h)
    | inr s ↦
        let t = w.there v s.0 s.1 in
        elim (ends s.0 u s.2 t.0 (subst (λ x. IsEdge graph x u) (sym t.1) h)) [
          | inl d ↦ now u d
          | inr a ↦ now_above u a.0 a.1 a.2
        ]
  ]

  different : (i j : ℕ) → i < n → j < n → (i ≡ j → ⊥) → path i ≡ path j → ⊥
  different i j li lj ne e = ne (same_on (w.placed i li) (ap state e ∙ w.placed j lj))

  together : (i : ℕ) → IsTogether (bounds ++ q ∷ []) q i
  together i b c lo hi = elim (Contains-push_cases bounds q b c) [
    | inl o ↦ let h = rises_last bounds q w.bounds_rise b o in omega arith
    | inr s ↦ omega arith
  ]

  out : (i : ℕ) → q < i → i < n → Trail graph (path q) (path i)
  out i lo lt = reach_apart (different q i in_path lt (λ e. omega arith)) (w.forth q i (omega arith) lt)

  home : (i : ℕ) → q < i → i < n → Trail graph (path i) (path q)
  home i lo lt = reach_apart (different i q lt in_path (λ e. omega arith)) (w.back q i (omega arith) lt (together i))

  -- a marked component is on a cycle
  on_cycle : mark ≡ true → (i : ℕ) → q ≤ i → i < n → Trail graph (path i) (path i)
  on_cycle m i le lt = elim (cases_lt q i) [
    | inl lo ↦ trail_join (home i lo lt) (out i lo lt)
    | inr ge ↦
        let s : q ≡ i = omega arith in
        subst (λ k. Trail graph (path k) (path k)) s (elim (long m) [
          | inl more ↦ let lo : q < q + 1 = omega arith in trail_join (out (q + 1) lo more) (home (q + 1) lo more)
          | inr h ↦ edge h
        ])
  ]

  close_marked : (v : ℕ) → state' v ≡ Closed true → Trail graph v v
  close_marked v e = elim (closed_closed q mark (state v) true (sym (state_is v) ∙ e)) [
    | inl o ↦ w.marked v o
    | inr s ↦ let t = w.there v s.0 s.1 in subst (λ x. Trail graph x x) t.1 (on_cycle (sym s.3) s.0 s.2 t.0)
  ]

  -- what is closed leads to what is closed
  stays : {a b : ℕ} → Trail graph a b → IsClosed (state a) → IsClosed (state b)
  stays (edge {i} {j} h) c = w.closed i j c h
  stays (next {i} {j} {k} h t) c = stays t (w.closed i j c h)

  -- an unmarked one is a single node, that leads to closed ones alone
  steps_out : mark ≡ false → (u : ℕ) → IsEdge graph (path q) u → IsClosed (state u)
  steps_out m u h = elim (ends q u (omega arith) in_path h) [
    | inl c ↦ c
    | inr a ↦
        let t = w.there u a.0 a.1 in
        let s : a.0 ≡ q = omega (arith, a.2, t.0, (short m).0) in
        absurd ((short m).1 (subst (λ x. IsEdge graph (path q) x) (sym t.1 ∙ ap path s) h))
  ]

  leads_out : mark ≡ false → {a b : ℕ} → Trail graph a b → a ≡ path q → IsClosed (state b)
  leads_out m (edge {i} {j} h) e = steps_out m j (subst (λ x. IsEdge graph x j) e h)
  leads_out m (next {i} {j} {k} h t) e = stays t (steps_out m j (subst (λ x. IsEdge graph x j) e h))

  close_unmarked : (v : ℕ) → state' v ≡ Closed false → Trail graph v v → ⊥
  close_unmarked v e t = elim (closed_closed q mark (state v) false (sym (state_is v) ∙ e)) [
    | inl o ↦ w.unmarked v o t
    | inr s ↦
        let p = w.there v s.0 s.1 in
        let m = sym s.3 in
        let z : s.0 ≡ q = omega (arith, s.2, p.0, (short m).0) in
        let c = leads_out m t (sym p.1 ∙ ap path z) in
        on_closed s.1 c.1
  ]

  close_seen : (i k : ℕ) → i < q → k < next_edges (path' i) → IsSeen bounds i (state' (end_of graph (path' i) k))
  close_seen i k lt h =
      let e = path_is i lt in
      let hk : k < next_edges (path i) = subst (λ x. k < next_edges x) e h in
      let u = end_of graph (path i) k in
      let li : i < n = omega (arith, in_path) in
      subst (λ x. IsSeen bounds i (state' (end_of graph x k))) (sym e) (elim (w.seen i k li hk) [
        | inl c ↦ inl (now u c)
        | inr s ↦ elim (cases_lt s.0 q) [
          | inl l ↦ inr (s.0, state_is u ∙ from_below q mark (state u) s.0 s.1 l, λ b o le. s.2 b (Contains-append_left bounds (q ∷ []) b o) le)
          | inr g ↦ inl (now_above u s.0 s.1 g)
        ]
      ])

  pub closed_last : Path graph state' next_edges q path' bounds calls
  closed_last = record {
    there = λ v i e.
        let c = closed_on q mark (state v) i (sym (state_is v) ∙ e) in
        (c.1, path_is i c.1 ∙ (w.there v i c.0).1);
    placed = λ i lt.
        let li : i < n = omega (arith, in_path) in
        ap state' (path_is i lt) ∙ state_is (path i) ∙ from_below q mark (state (path i)) i (w.placed i li) lt;
    closed = close_closed;
    marked = close_marked;
    unmarked = close_unmarked;
    forth = λ i j le lt.
        let li : i < q = omega arith in
        let lj : j < n = omega (arith, in_path) in
        subst (λ x. Reaches graph x (path' j)) (sym (path_is i li)) (subst (λ x. Reaches graph (path i) x) (sym (path_is j lt)) (w.forth i j le lj));
    back = λ i j le lt t.
        let li : i < q = omega arith in
        let lj : j < n = omega (arith, in_path) in
        subst (λ x. Reaches graph x (path' i)) (sym (path_is j lt)) (subst (λ x. Reaches graph (path j) x) (sym (path_is i li))
        (w.back i j le lj (λ b c lo hi. elim (Contains-push_cases bounds q b c) [ inl o ↦ t b o lo hi | inr s ↦ omega arith ])));
    seen = close_seen;
    finished = λ i lt.
        let li : i < n = omega (arith, in_path) in
        elim (w.finished i li) [
          | inl c ↦ elim (Contains-push_cases calls q i c) [ inl o ↦ inl o | inr s ↦ absurd (omega arith) ]
          | inr d ↦ inr (subst (λ x. length (get_or graph x []) ≤ next_edges x) (sym (path_is i lt)) d)
        ];
    fresh = λ v e. w.fresh v (closed_new q mark (state v) (sym (state_is v) ∙ e));
    calls_within = rises_last calls q w.calls_rise;
    calls_rise = rises_pop calls q w.calls_rise;
    bounds_called = λ b o. elim (Contains-push_cases calls q b (w.bounds_called b (Contains-append_left bounds (q ∷ []) b o))) [
      | inl c ↦ c
      | inr s ↦ let h = rises_last bounds q w.bounds_rise b o in absurd (omega arith)
    ];
    bounds_rise = rises_pop bounds q w.bounds_rise;
    begins = λ pos. elim (Contains-push_cases bounds q 0 (w.begins (omega (arith, in_path)))) [ inl o ↦ o | inr s ↦ absurd (omega arith) ];
  }
