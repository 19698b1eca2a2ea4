-- A walk over the bodies that one body spreads.
use Rattle.std.proofs.Common.{◌≡◌, ◌∙◌, ℕ, ◌<◌, inl, inr, List, [], ◌∷◌, ◌++◌, Bool, map, length, ap, sym, subst, arith, length-append, Contains}
use Rattle.std.proofs.lemmas.List.Elements.{Contains-push, Contains-push_cases, Contains-append_left}
use Rattle.gql_clashes.specs.declared.sets.Sets.{Sets}
use Rattle.gql_clashes.specs.declared.search.Item.{Item}
use Rattle.gql_clashes.specs.Numbered.{IsWhole, nodes_of}
use Rattle.gql_clashes.specs.Parts.{SpreadsTo, itself, more}
use Rattle.gql_clashes.specs.Reach.{IsClosed, IsReach, Reaching, WasMet}
use Rattle.gql_clashes.specs.Search.{start_at}
use Rattle.gql_clashes.specs.Seen.{IsSquare, IsInside, mark_all}
use Rattle.gql_clashes.proofs.Marking as marking
use Rattle.gql_clashes.proofs.Members.{Contains-cases, Contains-here, Contains-map, Contains-map_from, Contains-nil}
use Rattle.gql_clashes.proofs.Splitting.{onward}

module _ (z : Sets) (w : IsWhole z) where
  -- what a body spreads is a body
  pub inside_to : {s t : ℕ} → s < length z.bodies.items → SpreadsTo (nodes_of z) s t → t < length z.bodies.items
  inside_to h (itself) = h
  inside_to h (more {s} {t} c a) = inside_to (w.spreads s t c) a

  -- the items of some bodies
  starts_in : (n : ℕ) (bodies : List ℕ) → ((t : ℕ) → Contains bodies t → t < n) → (x : Item) → Contains (map start_at bodies) x → IsInside n x
  starts_in n bodies h x c = let r = Contains-map_from start_at bodies x c in rw (← r.2) (h r.0 r.1, h r.0 r.1)

  pub asked_in : (x : ℕ) (y : Item) → Contains (map start_at ((nodes_of z).spreads x)) y → IsInside (length z.bodies.items) y
  asked_in x y h = starts_in (length z.bodies.items) ((nodes_of z).spreads x) (λ t c. w.spreads x t c) y h

  module _ (c : ℕ) (inside : c < length z.bodies.items) (old : List (List Bool)) where
    abbrev n : ℕ
    n = length z.bodies.items

    first_in : (x : Item) → Contains (map start_at (c ∷ [])) x → IsInside n x
    first_in x h = starts_in n (c ∷ []) (λ t k. elim (Contains-cases t c [] k) [ inl e ↦ subst (λ a. a < n) (sym e) inside | inr o ↦ absurd (Contains-nil t o) ]) x h

    start_is : (x : Item) → Contains (map start_at (c ∷ [])) x → (t : ℕ) × SpreadsTo (nodes_of z) c t × (x ≡ start_at t)
    start_is x h =
        let r = Contains-map_from start_at (c ∷ []) x h in
        elim (Contains-cases r.0 c [] r.1) [
          | inl e ↦ (c, itself, sym r.2 ∙ ap start_at e)
          | inr o ↦ absurd (Contains-nil r.0 o)
        ]

    pub reaching_first : (starts todo0 todo1 : List Item) (rows1 : List (List Bool)) → IsSquare n old → starts ≡ map start_at (c ∷ []) → todo0 ≡ []
        → rows1 ≡ (mark_all starts (old, todo0)).0 → todo1 ≡ (mark_all starts (old, todo0)).1 → IsSquare n rows1 × Reaching z c old rows1 todo1 []
    reaching_first starts todo0 todo1 rows1 q e k r t =
        let m = marking.marked n (map start_at (c ∷ [])) (old, []) q first_in in
        rw (r, t, e, k) (
          m.square,
          record {
            here = m.here (start_at c) (Contains-map start_at (c ∷ []) c (Contains-here c []));
            kept = m.kept;
            waits = λ x h. elim (m.todo_new x h) [ inl o ↦ absurd (Contains-nil x o) | inr y ↦ start_is x y ];
            from = λ x h. absurd (Contains-nil x h);
            done = λ x h. elim (m.fresh x h) [ inl o ↦ inl o | inr y ↦ inr (inl y) ];
          },
        )

    -- an item that waits is that of a body that c spreads
    left_to : (x : Item) → ((t : ℕ) × SpreadsTo (nodes_of z) c t × (x ≡ start_at t)) → SpreadsTo (nodes_of z) c x.left
    left_to x r = subst (SpreadsTo (nodes_of z) c) (sym (ap (λ (i : Item). i.left) r.2)) r.1

    reaching_more : (rows : List (List Bool)) (rest : List Item) (found : List ℕ) (x : Item) (t : List (List Bool) × List Item) → Reaching z c old rows (rest ++ x ∷ []) found
        → marking.Marked n (map start_at ((nodes_of z).spreads x.left)) (rows, rest) t → Reaching z c old t.0 t.1 (found ++ x.left ∷ [])
    reaching_more rows rest found x t s m =
        let spreads = (nodes_of z).spreads x.left in
        let to = left_to x (s.waits x (Contains-push rest x)) in
        record {
          here = m.kept (start_at c) s.here;
          kept = λ y h. m.kept y (s.kept y h);
          waits = λ y h. elim (m.todo_new y h) [
            | inl o ↦ s.waits y (Contains-append_left rest (x ∷ []) y o)
            | inr q ↦ let r = Contains-map_from start_at spreads y q in (r.0, onward (nodes_of z) to r.1, sym r.2)
          ];
          from = λ y h. elim (Contains-push_cases found x.left y h) [ inl o ↦ s.from y o | inr e ↦ subst (SpreadsTo (nodes_of z) c) e to ];
          done = λ y h. elim (m.fresh y h) [
            | inr q ↦ inr (inl q)
            | inl o ↦ elim (s.done y o) [
              | inl a ↦ inl a
              | inr b ↦ elim b [
                | inr d ↦ inr (inr (Contains-append_left found (x.left ∷ []) y.left d.0, λ u k. m.kept (start_at u) (d.1 u k)))
                | inl u ↦ elim (Contains-push_cases rest x y u) [
                  | inl r ↦ inr (inl (m.todo_kept y r))
                  | inr e ↦ inr (inr (subst (λ (a : Item). Contains (found ++ x.left ∷ []) a.left × ((u : ℕ) → Contains ((nodes_of z).spreads a.left) u → WasMet t.0 u)) e
                      (Contains-push found x.left, λ u k. m.here (start_at u) (Contains-map start_at spreads u k))))
                ]
              ]
            ]
          ];
        }

    pub reaching_by : (found found' : List ℕ) (todo rest todo' asked : List Item) (rows rows' : List (List Bool)) (x : Item) → IsSquare n rows
        → Reaching z c old rows todo found → todo ≡ rest ++ x ∷ [] → asked ≡ map start_at ((nodes_of z).spreads x.left) → found' ≡ found ++ x.left ∷ []
        → rows' ≡ (mark_all asked (rows, rest)).0 → todo' ≡ (mark_all asked (rows, rest)).1 → IsSquare n rows' × Reaching z c old rows' todo' found'
    reaching_by found found' todo rest todo' asked rows rows' x q s e a b r t =
        let m = marking.marked n (map start_at ((nodes_of z).spreads x.left)) (rows, rest) q (λ y h. asked_in x.left y h) in
        rw (r, t, b, a) (m.square, reaching_more rows rest found x (mark_all (map start_at ((nodes_of z).spreads x.left)) (rows, rest)) (rw e at s) m)

    pub reach_less : (todo rest todo' asked : List Item) (rows rows' : List (List Bool)) (x : Item) → IsSquare n rows
        → todo ≡ rest ++ x ∷ [] → asked ≡ map start_at ((nodes_of z).spreads x.left) → rows' ≡ (mark_all asked (rows, rest)).0 → todo' ≡ (mark_all asked (rows, rest)).1 → marking.left (rows', todo') < marking.left (rows, todo)
    unfolding marking.left
    reach_less todo rest todo' asked rows rows' x q e a r t =
        let m = marking.marked n (map start_at ((nodes_of z).spreads x.left)) (rows, rest) q (λ y h. asked_in x.left y h) in
        let l = m.less in
        rw (r, t, e, a) (omega (arith, l, length-append rest (x ∷ [])))

    pub popped_in : (found : List ℕ) (todo rest : List Item) (rows : List (List Bool)) (x : Item) → Reaching z c old rows todo found → todo ≡ rest ++ x ∷ [] → x.left < n
    popped_in found todo rest rows x s e = inside_to inside (left_to x (s.waits x (subst (λ y. Contains y x) (sym e) (Contains-push rest x))))

    at_end : (rows : List (List Bool)) (found : List ℕ) → IsClosed z old → Reaching z c old rows [] found → IsReach z c old rows found
    at_end rows found closed s = record {
      here = s.here;
      kept = λ t h. s.kept (start_at t) h;
      closed = λ t u h k. elim (s.done (start_at t) h) [
        | inl o ↦ s.kept (start_at u) (closed t u o k)
        | inr b ↦ elim b [ inl o ↦ absurd (Contains-nil (start_at t) o) | inr d ↦ d.1 u k ]
      ];
      fresh = λ t h. elim (s.done (start_at t) h) [
        | inl o ↦ inl o
        | inr b ↦ elim b [ inl o ↦ absurd (Contains-nil (start_at t) o) | inr d ↦ inr d.0 ]
      ];
      from = s.from;
    }

    pub reach_ended : (rows : List (List Bool)) (todo : List Item) (found : List ℕ) → IsClosed z old → length todo ≡ 0 → Reaching z c old rows todo found → IsReach z c old rows found
    reach_ended rows [] found closed e s = at_end rows found closed s
    reach_ended rows (x ∷ xs) found closed e s = absurd (omega (arith, e))
