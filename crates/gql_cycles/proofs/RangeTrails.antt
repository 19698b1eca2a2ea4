-- Trails between nodes, by the segments of the tree.
use Rattle.std.proofs.Common.{◌≡◌, ℕ, zero, suc, ◌+◌, ◌-◌, ◌*◌, ◌<◌, ◌≤◌, ◌⊎◌, ◌↔◌, inl, inr, List, [], ◌∷◌, true, nat_eq, map, flat_map, length, get_or, Contains, sym, ap, ◌∙◌, subst, refl, arith}
use Rattle.std.specs.List.{list_all}
use Rattle.std.proofs.lemmas.Bool.{cases_lt, and_parts}
use Rattle.std.proofs.lemmas.Bool.Decides.{nat_tests}
use Rattle.std.proofs.lemmas.List.{get_or_past}
use Rattle.gql_cycles.proofs.Members.{Contains-nil}
use Rattle.gql_cycles.proofs.Trails.{trail_join}
use Rattle.gql_cycles.specs.Nodes.{IsEdge, Trail, edge, next}
use Rattle.gql_cycles.specs.Cover.{Below, here, left, right}
use Rattle.gql_cycles.specs.Ranges.{IsRangeEdge, RangeTrail, range_edge, range_next}
use Rattle.gql_cycles.specs.SegmentTree.{IsCover, IsTree, node_at}
use Rattle.gql_cycles.proofs.Rowing.{nodes_are}
use Rattle.gql_cycles.specs.declared.cover.Range.{Range}

-- a list with an item is one of the lists
is_inside : {A : Type 0} (xs : List (List A)) (i : ℕ) (x : A) → Contains (get_or xs i []) x → i < length xs
is_inside xs i x h = elim (cases_lt i (length xs)) [
  | inl lt ↦ lt
  | inr ge ↦ absurd (Contains-nil x (subst (λ ys. Contains ys x) (get_or_past xs i [] ge) h))
]

-- where no list has an item, none is at any place
no_item : {V A : Type 0} (f : V → List A) (vs : List V) (i : ℕ) (x : A) → list_all (λ v. nat_eq (length (f v)) 0) vs ≡ true → Contains (get_or (map f vs) i []) x → ⊥
no_item f [] i x e h = Contains-nil x (subst (λ ys. Contains ys x) (get_or_past [] i [] (omega arith)) h)
no_item f (v ∷ vs) zero x e h =
    let none : length (f v) ≡ 0 = grind (arith, nat_tests, (and_parts (nat_eq (length (f v)) 0) (list_all (λ w. nat_eq (length (f w)) 0) vs) e).0) in
    omega (arith, none, h.1)
no_item f (v ∷ vs) (suc i) x e h = no_item f vs i x (and_parts (nat_eq (length (f v)) 0) (list_all (λ w. nat_eq (length (f w)) 0) vs) e).1 h

-- nodes that lead to no range are on no trail
pub no_trail : {V : Type 0} (f : V → List Range) (vs : List V) (ends : List (List ℕ)) {i j : ℕ} → list_all (λ v. nat_eq (length (f v)) 0) vs ≡ true → RangeTrail (map f vs) ends i j → ⊥
no_trail f vs ends e (range_edge {i} {j} h) = let s = h in no_item f vs i s.1.0.0 e s.1.0.1
no_trail f vs ends e (range_next {i} {j} {k} h r) = let s = h in no_item f vs i s.1.0.0 e s.1.0.1

module _ (ranges : List (List Range)) (ends tree : List (List ℕ)) (t : IsTree ranges ends tree) where
  abbrev segments : ℕ
  segments = 2 * length ends

  starts : {i j : ℕ} → RangeTrail ranges ends i j → i < length ranges
  starts (range_edge {i} {j} h) = let s = h in is_inside ranges i s.1.0.0 s.1.0.1
  starts (range_next {i} {j} {k} h r) = let s = h in is_inside ranges i s.1.0.0 s.1.0.1

  down : {v p : ℕ} (j : ℕ) → Below (length ends) v p → j < length ranges → Contains (get_or ends p []) j → Trail tree v (segments + j)
  down j (here {v} {p} e lt) inside c = edge (subst (λ u. IsEdge tree u (segments + j)) (sym e) ((t.leaves p (segments + j) lt).1 (j, refl, inside, c)))
  down j (left {v} {p} lt b) inside c = next ((t.inner v (2 * v) lt).1 (inl refl)) (down j b inside c)
  down j (right {v} {p} lt b) inside c = next ((t.inner v (2 * v + 1) lt).1 (inr refl)) (down j b inside c)

  step_there : (i j : ℕ) → IsRangeEdge ranges ends i j → j < length ranges → Trail tree (segments + i) (segments + j)
  step_there i j h inside =
      let s = h in
      let lt : i < length ranges = is_inside ranges i s.1.0.0 s.1.0.1 in
      let a = ((t.nodes i lt).above s.0).1 (is_inside ends s.0 j s.1.1, s.1.0) in
      next a.1 (down j a.2 inside s.1.1)

  there : {i j : ℕ} → RangeTrail ranges ends i j → j < length ranges → Trail tree (segments + i) (segments + j)
  there (range_edge {i} {j} h) inside = step_there i j h inside
  there (range_next {i} {j} {k} h r) inside = trail_join (step_there i j h (starts r)) (there r inside)

  -- what is at the start of a trail to the node k
  record Leads (k a : ℕ) : Type 0 where
    at_node : (i : ℕ) → a ≡ segments + i → RangeTrail ranges ends i k
    at_segment : a < segments → (p j : ℕ) × Below (length ends) a p × Contains (get_or ends p []) j × ((j ≡ k) ⊎ RangeTrail ranges ends j k)

  node_edge : (a b i : ℕ) → IsEdge tree a b → a ≡ segments + i → IsCover (length ends) (get_or ranges i []) (get_or tree (segments + i) []) × IsEdge tree (segments + i) b
  node_edge a b i h e =
      let h' = subst (λ x. IsEdge tree x b) e h in
      (t.nodes i (omega (arith, is_inside tree (segments + i) b h', t.length_is)), h')

  leaf_edge : (a b : ℕ) → IsEdge tree a b → length ends ≤ a → a < segments → (j : ℕ) × (b ≡ segments + j) × Below (length ends) a (a - length ends) × Contains (get_or ends (a - length ends) []) j
  leaf_edge a b h le lt =
      let e : a ≡ length ends + (a - length ends) = omega (arith, le) in
      let less : a - length ends < length ends = omega (arith, le, lt) in
      let r = (t.leaves (a - length ends) b less).0 (subst (λ x. IsEdge tree x b) e h) in
      (r.0, r.1, here e less, r.3)

  back_edge : (k a b : ℕ) → IsEdge tree a b → b ≡ segments + k → Leads k a
  back_edge k a b h e = record {
    at_node = λ i is. let c = node_edge a b i h is in absurd (omega (arith, c.0.within b c.1, e));
    at_segment = λ lt. elim (cases_lt a (length ends)) [
      | inl less ↦ elim ((t.inner a b less).0 h) [ inl l ↦ absurd (omega (arith, l, e, less)) | inr r ↦ absurd (omega (arith, r, e, less)) ]
      | inr le ↦ let f = leaf_edge a b h le lt in (a - length ends, f.0, f.2, f.3, inl (omega (arith, f.1, e)))
    ];
  }

  back_node : (k b i j : ℕ) → IsRangeEdge ranges ends i j → (j ≡ k) ⊎ RangeTrail ranges ends j k → RangeTrail ranges ends i k
  back_node k b i j h (inl e) = range_edge (subst (λ x. IsRangeEdge ranges ends i x) e h)
  back_node k b i j h (inr r) = range_next h r

  back_next : (k a b : ℕ) → IsEdge tree a b → Leads k b → Leads k a
  back_next k a b h l = record {
    at_node = λ i is.
        let c = node_edge a b i h is in
        let n = l.at_segment (c.0.within b c.1) in
        back_node k b i n.1 (n.0, (((c.0.above n.0).0 (b, c.1, n.2)).1, n.3)) n.4;
    at_segment = λ lt. elim (cases_lt a (length ends)) [
      | inl less ↦ elim ((t.inner a b less).0 h) [
        | inl e ↦ let n = l.at_segment (omega (arith, e, less)) in (n.0, n.1, left less (subst (λ x. Below (length ends) x n.0) e n.2), n.3, n.4)
        | inr e ↦ let n = l.at_segment (omega (arith, e, less)) in (n.0, n.1, right less (subst (λ x. Below (length ends) x n.0) e n.2), n.3, n.4)
      ]
      | inr le ↦ let f = leaf_edge a b h le lt in (a - length ends, f.0, f.2, f.3, inr (l.at_node f.0 f.1))
    ];
  }

  back : {a b : ℕ} (k : ℕ) → Trail tree a b → b ≡ segments + k → Leads k a
  back {a} {b} k (edge h) e = back_edge k a b h e
  back {a} {b} k (next {i} {j} h r) e = back_next k a j h (back k r e)

  cycles_are : (i : ℕ) → Trail tree (segments + i) (segments + i) ↔ RangeTrail ranges ends i i
  cycles_are i = (λ r. (back i r refl).at_node i refl, λ r. there r (starts r))

-- the nodes that the code found
pub found_are : (ranges : List (List Range)) (ends tree tree' : List (List ℕ)) → IsTree ranges ends tree → tree' ≡ tree → (m : ℕ) → length ends ≡ m →
    (numbers numbers' nodes : List ℕ) → numbers' ≡ numbers → nodes ≡ flat_map (node_at (2 * m)) numbers' →
    ((k : ℕ) → Contains numbers k → Trail tree' k k) → ((k : ℕ) → Trail tree' k k → Contains numbers k) → (i : ℕ) → Contains nodes i ↔ RangeTrail ranges ends i i
found_are ranges ends tree tree' t same m of_ends numbers numbers' nodes same' is sound complete i =
    let p = nodes_are (2 * m) numbers nodes (is ∙ ap (flat_map (node_at (2 * m))) same') i in
    let at_i : 2 * length ends + i ≡ 2 * m + i = omega (arith, of_ends) in
    let r = cycles_are ranges ends tree t i in (
      λ h. r.0 (subst (λ k. Trail tree k k) (sym at_i) (subst (λ x. Trail x (2 * m + i) (2 * m + i)) same (sound (2 * m + i) (p.0 h)))),
      λ h. p.1 (complete (2 * m + i) (subst (λ x. Trail x (2 * m + i) (2 * m + i)) (sym same) (subst (λ k. Trail tree k k) at_i (r.1 h)))),
    )
