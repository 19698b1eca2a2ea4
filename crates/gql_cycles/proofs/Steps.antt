-- The steps of a walk, as the clauses of the calls give them.
use Rattle.std.proofs.Common.{◌≡◌, ℕ, zero, suc, ◌+◌, ◌-◌, ◌<◌, ◌≤◌, ◌↔◌, ◌⊎◌, inl, inr, List, [], ◌∷◌, ◌++◌, length, map, get_or, set, take, Contains, Bool, true, false, sym, ◌∙◌, ap, subst, refl, arith, length-append, get_or-take, length-take}
use Rattle.std.proofs.Math.ListN.{length-set}
use Rattle.std.proofs.lemmas.Bool.{cases_eq, cases_lt, cases_Bool, iff_false}
use Rattle.std.proofs.lemmas.List.{get_or_append_left, get_or_push, get_or_default, get_or_past, get_or-set_same, get_or-set_other, length-map, get_or-map}
use Rattle.gql_cycles.specs.Nodes.{IsEdge, IsGraph, Trail, edge, MarksCycles}
use Rattle.gql_cycles.specs.Path.{Ends, IsSeen, end_of, Path, IsWalk, KeepsMet, KeepsUpTo, Meets, Advances, closed_from, is_marked, remaining, left}
use Rattle.gql_cycles.specs.declared.walk.State.{State}
use Rattle.gql_cycles.specs.declared.walk.State.TheVariants.{New, OnPath, Closed}
use Rattle.gql_cycles.specs.declared.walk.Walk.{Walk}
use Rattle.gql_cycles.proofs.Trails.{trail_begins, reach_trail}
use Rattle.gql_cycles.proofs.Members.{Contains-nil}
use Rattle.gql_cycles.proofs.Rising.{ends_in, ends_split, ends_above, ends_other}
use Rattle.gql_cycles.proofs.Walking.{new_on, entered, joined, advanced, all_reach}
use Rattle.gql_cycles.proofs.Leaving.{left_alone, closed_last, closed_new}

-- a state that was read
pub read_state : (states : List State) (v : ℕ) (s t : State) → v < length states → s ≡ get_or states v s → s ≡ t → get_or states v New ≡ t
read_state states v s t lt is e = get_or_default states v New s lt ∙ sym is ∙ e

-- the nodes of the path are nodes of the graph
pub is_inside : (graph : List (List ℕ)) (w : Walk) → IsWalk graph w → (i : ℕ) → i < length w.path.items → get_or w.path.items i 0 < length graph
is_inside graph w h i lt = elim (cases_lt (get_or w.path.items i 0) (length graph)) [
  | inl l ↦ l
  | inr g ↦ absurd (new_on (get_or_past w.states.items (get_or w.path.items i 0) New (omega (arith, h.states_are))) (h.path.placed i lt))
]

pub called : (graph : List (List ℕ)) (w : Walk) (at : ℕ) → IsWalk graph w → Ends w.calls.items at → at < length w.path.items
called graph w at h e = h.path.calls_within at (ends_in w.calls.items at e)

pub node_called : (graph : List (List ℕ)) (w : Walk) (at : ℕ) → IsWalk graph w → Ends w.calls.items at → get_or w.path.items at 0 < length graph
node_called graph w at h e = is_inside graph w h at (called graph w at h e)

-- equal lists make equal paths
same_path : (graph : List (List ℕ)) (state : ℕ → State) (next_edges next_edges' : List ℕ) (n n' : ℕ) (path : ℕ → ℕ) (b b' c c' : List ℕ) → next_edges' ≡ next_edges → n' ≡ n → b' ≡ b → c' ≡ c →
    Path graph state (λ v. get_or next_edges v 0) n path b c → Path graph state (λ v. get_or next_edges' v 0) n' path b' c'
same_path graph state next_edges next_edges' n n' path b b' c c' el en eb ec p = rw (el, en, eb, ec) p

same_lists : (graph : List (List ℕ)) (s s' : List State) (l l' p p' b c c' : List ℕ) → s' ≡ s → l' ≡ l → p' ≡ p → c' ≡ c →
    Path graph (λ v. get_or s v New) (λ v. get_or l v 0) (length p) (λ i. get_or p i 0) b c → Path graph (λ v. get_or s' v New) (λ v. get_or l' v 0) (length p') (λ i. get_or p' i 0) b c'
same_lists graph s s' l l' p p' b c c' es el ep ec h = rw (es, el, ep, ec) h

module _ (graph : List (List ℕ)) (w0 w1 : Walk) (w : IsWalk graph w0) where
  -- a new node
  module _ (node : ℕ) (fits : node < length graph) (is_new : get_or w0.states.items node New ≡ New) (reach : (i : ℕ) → i < length w0.path.items → Trail graph (get_or w0.path.items i 0) node)
      (es : w1.states.items ≡ set w0.states.items node (OnPath (length w0.path.items))) (el : w1.next_edges.items ≡ w0.next_edges.items) (ep : w1.path.items ≡ w0.path.items ++ node ∷ [])
      (eb : w1.bounds.items ≡ w0.bounds.items ++ length w0.path.items ∷ []) (ec : w1.calls.items ≡ w0.calls.items ++ length w0.path.items ∷ []) where
    size_is : length w1.path.items ≡ length w0.path.items + 1
    size_is = ap length ep ∙ length-append w0.path.items (node ∷ [])

    pub now_on : get_or w1.states.items node New ≡ OnPath (length w0.path.items)
    now_on = ap (λ s. get_or s node New) es ∙ get_or-set_same w0.states.items node (OnPath (length w0.path.items)) New (omega (arith, w.states_are))

    others : (u : ℕ) → (u ≡ node → ⊥) → get_or w1.states.items u New ≡ get_or w0.states.items u New
    others u ne = ap (λ s. get_or s u New) es ∙ get_or-set_other w0.states.items node u (OnPath (length w0.path.items)) New ne

    path_same : (i : ℕ) → i < length w0.path.items → get_or w1.path.items i 0 ≡ get_or w0.path.items i 0
    path_same i lt = ap (λ p. get_or p i 0) ep ∙ get_or_append_left w0.path.items (node ∷ []) 0 i lt

    pub enter_answer : IsWalk graph w1
    enter_answer = record {
      states_are = ap length es ∙ length-set w0.states.items node (OnPath (length w0.path.items)) ∙ w.states_are;
      next_edges_are = ap length el ∙ w.next_edges_are;
      path = same_path graph (λ v. get_or w1.states.items v New) w0.next_edges.items w1.next_edges.items (length w0.path.items + 1) (length w1.path.items) (λ i. get_or w1.path.items i 0) _ w1.bounds.items _ w1.calls.items el size_is eb ec
          (entered graph (λ v. get_or w0.states.items v New) (λ v. get_or w0.next_edges.items v 0) (length w0.path.items) (λ i. get_or w0.path.items i 0) w0.bounds.items w0.calls.items w.path
          node (λ v. get_or w1.states.items v New) (λ i. get_or w1.path.items i 0) is_new reach now_on others
          (ap (λ p. get_or p (length w0.path.items) 0) ep ∙ get_or_push w0.path.items node 0 (length w0.path.items) refl) path_same);
    }

    pub enter_met : KeepsMet w0 w1
    enter_met v e = elim (cases_eq v node) [
      | inl s ↦ absurd (new_on e (subst (λ x. get_or w1.states.items x New ≡ OnPath (length w0.path.items)) (sym s) now_on))
      | inr ne ↦ sym (others v ne) ∙ e
    ]

    pub enter_meets : (at : ℕ) → at < length w0.path.items → Meets graph at node w0 w1
    enter_meets at lt = record {
      walk = enter_answer;
      next_edges_is = el;
      is_inside = omega (arith, size_is);
      path_at = path_same at lt;
      seen = inr (length w0.path.items, now_on, λ b c le. omega arith);
      met = enter_met;
      calls_grow = omega (arith, ap length ec, length-append w0.calls.items (length w0.path.items ∷ []));
    }

  -- all of the path leads where its last node does
  pub reaches : (at v : ℕ) → Ends w0.calls.items at → IsEdge graph (get_or w0.path.items at 0) v → (i : ℕ) → i < length w0.path.items → Trail graph (get_or w0.path.items i 0) v
  reaches at v e h i lt = reach_trail
      (all_reach graph (λ v. get_or w0.states.items v New) (λ v. get_or w0.next_edges.items v 0) (length w0.path.items) (λ i. get_or w0.path.items i 0) w0.bounds.items w0.calls.items w.path
      at (ends_above w0.calls.items at w.path.calls_rise e) (ends_in w0.calls.items at e) i lt) (edge h)

  -- an edge back to the path
  pub join_meets : (at end p : ℕ) → Ends w0.calls.items at → IsEdge graph (get_or w0.path.items at 0) end → get_or w0.states.items end New ≡ OnPath p →
      w1.states.items ≡ w0.states.items → w1.next_edges.items ≡ w0.next_edges.items → w1.path.items ≡ w0.path.items → w1.calls.items ≡ w0.calls.items → KeepsUpTo p w0.bounds.items w1.bounds.items → Meets graph at end w0 w1
  join_meets at end p e h on es el ep ec keeps =
      let t = w.path.there end p on in
      record {
        walk = record {
          states_are = ap length es ∙ w.states_are;
          next_edges_are = ap length el ∙ w.next_edges_are;
          path = same_lists graph w0.states.items w1.states.items w0.next_edges.items w1.next_edges.items w0.path.items w1.path.items w1.bounds.items w0.calls.items w1.calls.items es el ep ec
              (joined graph (λ v. get_or w0.states.items v New) (λ v. get_or w0.next_edges.items v 0) (length w0.path.items) (λ i. get_or w0.path.items i 0) w0.bounds.items w0.calls.items w.path
              at (ends_above w0.calls.items at w.path.calls_rise e) (ends_in w0.calls.items at e) p t.0 (subst (λ x. IsEdge graph (get_or w0.path.items at 0) x) (sym t.1) h) w1.bounds.items keeps);
        };
        next_edges_is = el;
        is_inside = omega (arith, ap length ep, called graph w0 at w e);
        path_at = ap (λ p. get_or p at 0) ep;
        seen = inr (p, ap (λ s. get_or s end New) es ∙ on, λ b c le. (keeps.only b c).1);
        met = λ v n. sym (ap (λ s. get_or s v New) es) ∙ n;
        calls_grow = omega (arith, ap length ec);
      }

pub closed_meets : (graph : List (List ℕ)) (w0 : Walk) (at end : ℕ) (c : Bool) → IsWalk graph w0 → Ends w0.calls.items at → get_or w0.states.items end New ≡ Closed c → Meets graph at end w0 w0
closed_meets graph w0 at end c w e s = record {
  walk = w;
  next_edges_is = refl;
  is_inside = called graph w0 at w e;
  path_at = refl;
  seen = inl (c, s);
  met = λ v n. n;
  calls_grow = omega arith;
}

-- one edge less
pub remaining_less : (graph : List (List ℕ)) (next_edges : List ℕ) (v : ℕ) → v < length next_edges → length next_edges ≡ length graph → get_or next_edges v 0 < length (get_or graph v []) → remaining graph (set next_edges v (get_or next_edges v 0 + 1)) + 1 ≡ remaining graph next_edges
unfolding remaining
remaining_less [] [] v lt len more = absurd (omega (arith, lt))
remaining_less [] (n ∷ ns) v lt len more = absurd (omega (arith, len))
remaining_less (out ∷ graph) [] v lt len more = absurd (omega (arith, lt))
remaining_less (out ∷ graph) (n ∷ ns) zero lt len more = omega (arith, more)
remaining_less (out ∷ graph) (n ∷ ns) (suc v) lt len more = let r = remaining_less graph ns v (omega (arith, lt)) (omega (arith, len)) more in omega (arith, r)

is_closed : (s : State) (b : Bool) → ((i : ℕ) → s ≡ OnPath i → ⊥) → is_marked s ≡ b → (s ≡ New → ⊥) → s ≡ Closed b
is_closed New b none m ne = absurd (ne refl)
is_closed (OnPath i) b none m ne = absurd (none i refl)
is_closed (Closed c) b none m ne = ap Closed m

-- where nothing is followed, the path is empty
pub alone : (graph : List (List ℕ)) (w : Walk) → IsWalk graph w → w.calls.items ≡ [] → length w.path.items ≡ 0
alone graph w h e = elim (cases_lt 0 (length w.path.items)) [
  | inl l ↦ absurd (Contains-nil 0 (subst (λ xs. Contains xs 0) e (h.path.bounds_called 0 (h.path.begins l))))
  | inr g ↦ omega arith
]

-- the end of an edge was met, and the edge is followed
pub follow_steps : (graph : List (List ℕ)) (w0 w1 w2 : Walk) (at node k end : ℕ) → IsWalk graph w0 → Ends w0.calls.items at → node ≡ get_or w0.path.items at 0 → k ≡ get_or w0.next_edges.items node 0 → k < length (get_or graph node []) → end ≡ end_of graph node k →
    Meets graph at end w0 w1 → w2.states.items ≡ w1.states.items → w2.next_edges.items ≡ set w1.next_edges.items node (k + 1) → w2.path.items ≡ w1.path.items → w2.bounds.items ≡ w1.bounds.items → w2.calls.items ≡ w1.calls.items → Advances graph w0 w2
unfolding left
follow_steps graph w0 w1 w2 at node k end w e is_node is_k more is_end m es el ep eb ec =
    let here : get_or w1.path.items at 0 ≡ node = m.path_at ∙ sym is_node in
    let fits : node < length w1.next_edges.items = subst (λ x. x < length w1.next_edges.items) here (omega (arith, is_inside graph w1 m.walk at m.is_inside, m.walk.next_edges_are)) in
    let k1 : get_or w1.next_edges.items node 0 ≡ k = ap (λ l. get_or l node 0) m.next_edges_is ∙ sym is_k in
    let same_end : end ≡ end_of graph (get_or w1.path.items at 0) (get_or w1.next_edges.items (get_or w1.path.items at 0) 0) =
    is_end ∙ ap (λ x. end_of graph node x) (sym k1) ∙ ap (λ x. end_of graph x (get_or w1.next_edges.items x 0)) (sym here) in
    let now_k : get_or w2.next_edges.items (get_or w1.path.items at 0) 0 ≡ get_or w1.next_edges.items (get_or w1.path.items at 0) 0 + 1 =
    subst (λ x. get_or w2.next_edges.items x 0 ≡ get_or w1.next_edges.items x 0 + 1) (sym here)
    (ap (λ l. get_or l node 0) el ∙ get_or-set_same w1.next_edges.items node (k + 1) 0 fits ∙ ap (λ x. x + 1) (sym k1)) in
    let others : (u : ℕ) → (u ≡ get_or w1.path.items at 0 → ⊥) → get_or w2.next_edges.items u 0 ≡ get_or w1.next_edges.items u 0 =
    λ u ne. ap (λ l. get_or l u 0) el ∙ get_or-set_other w1.next_edges.items node u (k + 1) 0 (λ s. ne (s ∙ sym here)) in
    let p : Path graph (λ v. get_or w1.states.items v New) (λ v. get_or w2.next_edges.items v 0) (length w1.path.items) (λ i. get_or w1.path.items i 0) w1.bounds.items w1.calls.items =
    advanced graph (λ v. get_or w1.states.items v New) (λ v. get_or w1.next_edges.items v 0) (length w1.path.items) (λ i. get_or w1.path.items i 0) w1.bounds.items w1.calls.items m.walk.path
    at m.is_inside (λ v. get_or w2.next_edges.items v 0) now_k others (subst (λ x. IsSeen w1.bounds.items at (get_or w1.states.items x New)) same_end m.seen) in
    let q = same_lists graph w1.states.items w2.states.items w2.next_edges.items w2.next_edges.items w1.path.items w2.path.items w1.bounds.items w1.calls.items w2.calls.items es refl ep ec p in
    let less : remaining graph (set w0.next_edges.items node (k + 1)) + 1 ≡ remaining graph w0.next_edges.items =
    subst (λ x. remaining graph (set w0.next_edges.items node (x + 1)) + 1 ≡ remaining graph w0.next_edges.items) (sym is_k)
    (remaining_less graph w0.next_edges.items node (omega (arith, fits, ap length m.next_edges_is)) w.next_edges_are (omega (arith, more, is_k))) in
    let now : remaining graph w2.next_edges.items ≡ remaining graph (set w0.next_edges.items node (k + 1)) = ap (λ l. remaining graph l) (el ∙ ap (λ l. set l node (k + 1)) m.next_edges_is) in
    record {
      walk = record {
        states_are = ap length es ∙ m.walk.states_are;
        next_edges_are = ap length el ∙ length-set w1.next_edges.items node (k + 1) ∙ m.walk.next_edges_are;
        path = subst (λ b. Path graph (λ v. get_or w2.states.items v New) (λ v. get_or w2.next_edges.items v 0) (length w2.path.items) (λ i. get_or w2.path.items i 0) b w2.calls.items) (sym eb) q;
      };
      met = λ v n. m.met v (sym (ap (λ s. get_or s v New) es) ∙ n);
      falls = omega (arith, less, now, ap length ec, m.calls_grow);
    }

-- the last call of a walk, split off
split_calls : (graph : List (List ℕ)) (w : Walk) (at : ℕ) → IsWalk graph w → Ends w.calls.items at →
    Path graph (λ v. get_or w.states.items v New) (λ v. get_or w.next_edges.items v 0) (length w.path.items) (λ i. get_or w.path.items i 0) w.bounds.items (take (length w.calls.items - 1) w.calls.items ++ at ∷ [])
split_calls graph w at h e = subst (λ c. Path graph (λ v. get_or w.states.items v New) (λ v. get_or w.next_edges.items v 0) (length w.path.items) (λ i. get_or w.path.items i 0) w.bounds.items c) (ends_split w.calls.items at e) h.path

-- a node is left that begins no component
pub leave_alone : (graph : List (List ℕ)) (w0 w1 : Walk) (at : ℕ) → IsWalk graph w0 → Ends w0.calls.items at →
    length (get_or graph (get_or w0.path.items at 0) []) ≤ get_or w0.next_edges.items (get_or w0.path.items at 0) 0 → (Ends w0.bounds.items at → ⊥) →
    w1.states.items ≡ w0.states.items → w1.next_edges.items ≡ w0.next_edges.items → w1.path.items ≡ w0.path.items → w1.bounds.items ≡ w0.bounds.items → w1.calls.items ≡ take (length w0.calls.items - 1) w0.calls.items → Advances graph w0 w1
unfolding left
leave_alone graph w0 w1 at w e done no_bound es el ep eb ec =
    let p = left_alone graph (λ v. get_or w0.states.items v New) (λ v. get_or w0.next_edges.items v 0) (length w0.path.items) (λ i. get_or w0.path.items i 0) w0.bounds.items (take (length w0.calls.items - 1) w0.calls.items) at
    (split_calls graph w0 at w e) done
    (ends_other w0.bounds.items at w.path.bounds_rise (λ c o. ends_above w0.calls.items at w.path.calls_rise e c (w.path.bounds_called c o)) no_bound) in
    let q = same_lists graph w0.states.items w1.states.items w0.next_edges.items w1.next_edges.items w0.path.items w1.path.items w0.bounds.items (take (length w0.calls.items - 1) w0.calls.items) w1.calls.items es el ep ec p in
    record {
      walk = record {
        states_are = ap length es ∙ w.states_are;
        next_edges_are = ap length el ∙ w.next_edges_are;
        path = subst (λ b. Path graph (λ v. get_or w1.states.items v New) (λ v. get_or w1.next_edges.items v 0) (length w1.path.items) (λ i. get_or w1.path.items i 0) b w1.calls.items) (sym eb) q;
      };
      met = λ v n. sym (ap (λ s. get_or s v New) es) ∙ n;
      falls = omega (arith, ap (λ l. remaining graph l) el, ap length ec, length-take (length w0.calls.items - 1) w0.calls.items, e.0);
    }

-- a node is left that begins a component
pub leave_closed : (graph : List (List ℕ)) (w0 w1 : Walk) (at node : ℕ) (mark : Bool) (out : List ℕ) → IsWalk graph w0 → Ends w0.calls.items at → node ≡ get_or w0.path.items at 0 → out ≡ get_or graph node [] →
    length (get_or graph (get_or w0.path.items at 0) []) ≤ get_or w0.next_edges.items (get_or w0.path.items at 0) 0 → Ends w0.bounds.items at →
    ((mark ≡ true) ↔ ((1 < length w0.path.items - at) ⊎ Contains out node)) →
    ((v : ℕ) → get_or w1.states.items v New ≡ closed_from at mark (get_or w0.states.items v New)) → length w1.states.items ≡ length w0.states.items →
    w1.next_edges.items ≡ w0.next_edges.items → w1.path.items ≡ take at w0.path.items → w1.bounds.items ≡ take (length w0.bounds.items - 1) w0.bounds.items → w1.calls.items ≡ take (length w0.calls.items - 1) w0.calls.items → Advances graph w0 w1
unfolding left
leave_closed graph w0 w1 at node mark out w e is_node is_out done b marks state_is len el ep eb ec =
    let in_path : at < length w0.path.items = called graph w0 at w e in
    let size : length w1.path.items ≡ at = omega (arith, ap length ep, length-take at w0.path.items) in
    let self : Contains out node → IsEdge graph (get_or w0.path.items at 0) (get_or w0.path.items at 0) =
    λ c. subst (λ x. IsEdge graph x x) is_node (subst (λ xs. Contains xs node) is_out c) in
    let from_self : IsEdge graph (get_or w0.path.items at 0) (get_or w0.path.items at 0) → Contains out node =
    λ h. subst (λ xs. Contains xs node) (sym is_out) (subst (λ x. IsEdge graph x x) (sym is_node) h) in
    let p0 : Path graph (λ v. get_or w0.states.items v New) (λ v. get_or w0.next_edges.items v 0) (length w0.path.items) (λ i. get_or w0.path.items i 0) (take (length w0.bounds.items - 1) w0.bounds.items ++ at ∷ []) (take (length w0.calls.items - 1) w0.calls.items ++ at ∷ []) =
    subst (λ bs. Path graph (λ v. get_or w0.states.items v New) (λ v. get_or w0.next_edges.items v 0) (length w0.path.items) (λ i. get_or w0.path.items i 0) bs (take (length w0.calls.items - 1) w0.calls.items ++ at ∷ [])) (ends_split w0.bounds.items at b) (split_calls graph w0 at w e) in
    let p = closed_last graph (λ v. get_or w0.states.items v New) (λ v. get_or w0.next_edges.items v 0) (length w0.path.items) (λ i. get_or w0.path.items i 0) (take (length w0.bounds.items - 1) w0.bounds.items) (take (length w0.calls.items - 1) w0.calls.items) at
    p0 done mark
    (λ m. elim (marks.0 m) [ inl l ↦ inl (omega arith) | inr c ↦ inr (self c) ])
    (λ m. (
      elim (cases_lt (at + 1) (length w0.path.items)) [ inl l ↦ absurd (iff_false marks m (inl (omega arith))) | inr g ↦ g ],
      λ h. iff_false marks m (inr (from_self h)),
    ))
    (λ v. get_or w1.states.items v New) state_is (λ i. get_or w1.path.items i 0)
    (λ i lt. ap (λ xs. get_or xs i 0) ep ∙ get_or-take at w0.path.items i 0 lt) in
    record {
      walk = record {
        states_are = len ∙ w.states_are;
        next_edges_are = ap length el ∙ w.next_edges_are;
        path = same_path graph (λ v. get_or w1.states.items v New) w0.next_edges.items w1.next_edges.items at (length w1.path.items) (λ i. get_or w1.path.items i 0) _ w1.bounds.items _ w1.calls.items el size eb ec p;
      };
      met = λ v n. closed_new at mark (get_or w0.states.items v New) (sym (state_is v) ∙ n);
      falls = omega (arith, ap (λ l. remaining graph l) el, ap length ec, length-take (length w0.calls.items - 1) w0.calls.items, e.0);
    }

-- the path and the states, as they are lent
pub there_answer : (graph : List (List ℕ)) (w : Walk) → IsWalk graph w → (states : List State) (path : List ℕ) → states ≡ w.states.items → path ≡ w.path.items →
    (v i : ℕ) → get_or states v New ≡ OnPath i → (i < length path) × (get_or path i 0 ≡ v)
there_answer graph w h states path es ep v i e =
    let t = h.path.there v i (sym (ap (λ s. get_or s v New) es) ∙ e) in
    (omega (arith, t.0, ap length ep), ap (λ p. get_or p i 0) ep ∙ t.1)

-- an edge ends within the graph
pub end_within : (graph : List (List ℕ)) (node k : ℕ) (out : List ℕ) → IsGraph graph → out ≡ get_or graph node [] → k < length out → get_or out k 0 < length graph
end_within graph node k out g e lt =
    let c : Contains out (get_or out k 0) = (k, lt, get_or_default out k (get_or out k 0) 0 lt) in
    g node (get_or out k 0) (subst (λ xs. Contains xs (get_or out k 0)) e c)

-- once each node was walked from, the marks are right
pub walked_all : (graph : List (List ℕ)) (w : Walk) (n : ℕ) (marks : List Bool) → IsWalk graph w → w.calls.items ≡ [] → ((v : ℕ) → v < n → get_or w.states.items v New ≡ New → ⊥) → length graph ≤ n → marks ≡ map is_marked w.states.items → MarksCycles graph marks
walked_all graph w n marks h empty met le e =
    let size = alone graph w h empty in
    let none : (v i : ℕ) → get_or w.states.items v New ≡ OnPath i → ⊥ = λ v i on. omega (arith, (h.path.there v i on).0, size) in
    let read : (v : ℕ) → v < length w.states.items → get_or marks v false ≡ is_marked (get_or w.states.items v New) =
    λ v lt. ap (λ m. get_or m v false) e ∙ get_or-map is_marked w.states.items v New false lt in
    let len : length marks ≡ length w.states.items = ap length e ∙ length-map w.states.items is_marked in
    record {
      length_is = len ∙ h.states_are;
      sound = λ v t. elim (cases_lt v (length w.states.items)) [
        | inl lt ↦ h.path.marked v (is_closed (get_or w.states.items v New) true (none v) (sym (read v lt) ∙ t) (met v (omega (arith, lt, h.states_are))))
        | inr ge ↦ let f : get_or marks v false ≡ false = get_or_past marks v false (omega (arith, len, ge)) in absurd (cc)
      ];
      complete = λ v t.
          let lt : v < length w.states.items = omega (arith, trail_begins graph t, h.states_are) in
          elim (cases_Bool (is_marked (get_or w.states.items v New))) [
            | inl m ↦ read v lt ∙ m
            | inr m ↦ absurd (h.path.unmarked v (is_closed (get_or w.states.items v New) false (none v) m (met v (omega (arith, lt, h.states_are)))) t)
          ];
    }
