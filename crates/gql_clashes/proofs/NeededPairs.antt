-- The pairs of bodies that have to be compared are enough.
use Rattle.std.proofs.Common.{◌≡◌, ◌⊎◌, ℕ, ◌*◌, ◌<◌, ◌≤◌, inl, inr, List, [], ◌∷◌, ◌++◌, Bool, false, map, length, replicate, take, sym, subst, refl, Contains}
use Rattle.std.proofs.lemmas.Bool.{cases_lt}
use Rattle.std.proofs.lemmas.List.{take_all}
use Rattle.std.proofs.lemmas.List.Elements.{Contains-append_left, Contains-append_right, Contains-append_cases}
use Rattle.gql_clashes.specs.declared.sets.Mode.{Mode}
use Rattle.gql_clashes.specs.declared.sets.Mode.TheVariants.{Merge}
use Rattle.gql_clashes.specs.declared.sets.Pair.{Pair}
use Rattle.gql_clashes.specs.declared.sets.Sets.{Sets}
use Rattle.gql_clashes.specs.declared.search.Item.{Item}
use Rattle.gql_clashes.specs.Clashes.{FieldsOf, IsClash, SeedsBetween, SeedsOf}
use Rattle.gql_clashes.specs.Compared.{item_of}
use Rattle.gql_clashes.specs.Numbered.{IsClashPair, IsWhole, Lists, nodes_of}
use Rattle.gql_clashes.specs.Parts.{SpreadsOn, SpreadsTo, by_set, by_spread, itself, more}
use Rattle.gql_clashes.specs.PairsOf.{SeedsAmong}
use Rattle.gql_clashes.specs.Reach.{AreNeeded, IsCleanBody, IsReach, IsWithin, Needing, NeedsFor, WasMet, across}
use Rattle.gql_clashes.specs.Search.{start_at}
use Rattle.gql_clashes.specs.Seen.{IsInside}
use Rattle.gql_clashes.proofs.Joining.{between_turns, from_parts, reached_by, reached_of, to_parts}
use Rattle.gql_clashes.proofs.Members.{Contains-cases, Contains-flat_map, Contains-flat_map_from, Contains-here, Contains-map, Contains-map_from, Contains-nil}
use Rattle.gql_clashes.proofs.Reading.{item, item_less, item_more, item_swapped, number_tests}
use Rattle.gql_clashes.proofs.ReachWalk.{inside_to}
use Rattle.gql_clashes.proofs.Seeing.{none_seen}
use Rattle.gql_clashes.proofs.Splitting.{in_one, to_on}

-- ---- the pairs of some bodies with others

across_has : (lefts rights : List ℕ) (t u : ℕ) → Contains lefts t → Contains rights u → Contains (across lefts rights) (item_of t u Merge)
across_has lefts rights t u a b = Contains-flat_map (λ i. map (λ k. item_of i k Merge) rights) lefts t (item_of t u Merge) a (Contains-map (λ k. item_of t k Merge) rights u b)

across_from : (lefts rights : List ℕ) (x : Item) → Contains (across lefts rights) x → (t u : ℕ) × Contains lefts t × Contains rights u × (item_of t u Merge ≡ x)
across_from lefts rights x c =
    let r = Contains-flat_map_from (λ i. map (λ k. item_of i k Merge) rights) lefts x c in
    let s = Contains-map_from (λ k. item_of r.0 k Merge) rights x r.2 in
    (r.0, s.0, r.1, s.1, s.2)

ends_of : (P : ℕ → Type 0) (t u : ℕ) → P t → P u → P (item_of t u Merge).left × P (item_of t u Merge).right
ends_of P t u a b = elim (cases_lt u t) [
  | inl l ↦ subst (λ (x : Item). P x.left × P x.right) (sym (item_more t u Merge l)) (b, a)
  | inr g ↦ subst (λ (x : Item). P x.left × P x.right) (sym (item_less t u Merge g)) (a, b)
]

one_of : (s t : ℕ) → Contains (s ∷ []) t → t ≡ s
one_of s t c = elim (Contains-cases t s [] c) [ inl e ↦ e | inr o ↦ absurd (Contains-nil t o) ]

module _ (z : Sets) (s : ℕ) (old : List Item) where
  abbrev To : ℕ → Type 0
  To = SpreadsTo (nodes_of z) s

  is_own : (t : ℕ) → Contains (s ∷ []) t → To t
  is_own t c = subst To (sym (one_of s t c)) itself

  pub needing_first : (n : ℕ) (rows : List (List Bool)) (done : List ℕ) (new : List Item) → rows ≡ replicate n (replicate (2 * n) false) → done ≡ s ∷ [] → new ≡ old ++ across (s ∷ []) (s ∷ [])
      → Needing z s [] rows done old new
  needing_first n rows done new r d e =
      let both = across (s ∷ []) (s ∷ []) in
      rw (r, d, e) (record {
        here = Contains-here s [];
        kept = λ x c. Contains-append_left old both x c;
        from = λ x c. elim (Contains-append_cases old both x c) [
          | inl o ↦ inl o
          | inr a ↦
              let k = across_from (s ∷ []) (s ∷ []) x a in
              inr (subst (λ (y : Item). To y.left × To y.right) k.4 (ends_of To k.0 k.1 (is_own k.0 k.2) (is_own k.1 k.3)))
        ];
        closed = λ t u h c. absurd (none_seen n (start_at t) h);
        first = λ t c. absurd (Contains-nil t c);
        met = λ t h. absurd (none_seen n (start_at t) h);
        reached = is_own;
        has = λ t u a b. inl (Contains-append_right old both (item_of t u Merge) (across_has (s ∷ []) (s ∷ []) t u a b));
      })

  module _ (begun later : List ℕ) (c : ℕ) (rows rows' : List (List Bool)) (done found : List ℕ) (pairs : List Item) (q : Needing z s begun rows done old pairs)
      (spread : Contains ((nodes_of z).spreads s) c) (r : IsReach z c rows rows' found) (next : (d : ℕ) → Contains later d → Contains begun d ⊎ (c ≡ d)) where
    abbrev added : List Item
    added = across done found

    to_new : (t : ℕ) → Contains found t → To t
    to_new t h = more spread (r.from t h)

    has_two : (t u : ℕ) → (Contains done t ⊎ Contains found t) → (Contains done u ⊎ Contains found u) → Contains (pairs ++ added) (item_of t u Merge) ⊎ IsWithin z s t u
    has_two t u (inl a) (inl b) = elim (q.has t u a b) [ inl h ↦ inl (Contains-append_left pairs added (item_of t u Merge) h) | inr k ↦ inr k ]
    has_two t u (inl a) (inr b) = inl (Contains-append_right pairs added (item_of t u Merge) (across_has done found t u a b))
    has_two t u (inr a) (inl b) = inl (subst (Contains (pairs ++ added)) (item_swapped u t Merge) (Contains-append_right pairs added (item_of u t Merge) (across_has done found u t b a)))
    has_two t u (inr a) (inr b) = inr (c, spread, r.from t a, r.from u b)

    pub needing_more : (done' : List ℕ) (pairs' : List Item) → pairs' ≡ pairs ++ added → done' ≡ done ++ found → Needing z s later rows' done' old pairs'
    needing_more done' pairs' e d = rw (e, d) (record {
      here = Contains-append_left done found s q.here;
      kept = λ x h. Contains-append_left pairs added x (q.kept x h);
      from = λ x h. elim (Contains-append_cases pairs added x h) [
        | inl o ↦ q.from x o
        | inr a ↦
            let k = across_from done found x a in
            inr (subst (λ (y : Item). To y.left × To y.right) k.4 (ends_of To k.0 k.1 (q.reached k.0 k.2) (to_new k.1 k.3)))
      ];
      closed = r.closed;
      first = λ t h. elim (next t h) [ inl o ↦ r.kept t (q.first t o) | inr same ↦ subst (WasMet rows') same r.here ];
      met = λ t h. elim (r.fresh t h) [ inl o ↦ Contains-append_left done found t (q.met t o) | inr f ↦ Contains-append_right done found t f ];
      reached = λ t h. elim (Contains-append_cases done found t h) [ inl o ↦ q.reached t o | inr f ↦ to_new t f ];
      has = λ t u a b. has_two t u (Contains-append_cases done found t a) (Contains-append_cases done found u b);
    })

  -- ---- at the end

  module _ (rows : List (List Bool)) (done : List ℕ) (pairs : List Item) (q : Needing z s ((nodes_of z).spreads s) rows done old pairs) where
    on_met : {t : ℕ} → SpreadsOn (nodes_of z) s t → WasMet rows t
    on_met (by_set {t} c) = q.first t c
    on_met (by_spread {t} {u} a c) = q.closed t u (on_met a) c

    in_done : (t : ℕ) → To t → Contains done t
    in_done t a = elim (to_on (nodes_of z) a) [ inl e ↦ subst (Contains done) (sym e) q.here | inr o ↦ q.met t (on_met o) ]

    needs_for : NeedsFor z s old pairs
    needs_for = record {
      kept = q.kept;
      from = q.from;
      has = λ t u a b. q.has t u (in_done t a) (in_done u b);
    }

  pub needing_ended : (i : ℕ) (rows : List (List Bool)) (done : List ℕ) (pairs : List Item) → length ((nodes_of z).spreads s) ≤ i → Needing z s (take i ((nodes_of z).spreads s)) rows done old pairs → NeedsFor z s old pairs
  needing_ended i rows done pairs le q = needs_for rows done pairs (subst (λ l. Needing z s l rows done old pairs) (take_all i ((nodes_of z).spreads s) le) q)

-- ---- some bodies

pub needed_none : (z : Sets) (pairs : List Item) → pairs ≡ [] → AreNeeded z [] pairs
needed_none z pairs e = rw e (record {
  from = λ x c. absurd (Contains-nil x c);
  has = λ s t u c a b. absurd (Contains-nil s c);
})

pub needed_more : (z : Sets) (begun later : List ℕ) (s : ℕ) (old new : List Item) → AreNeeded z begun old → NeedsFor z s old new
    → ((d : ℕ) → Contains later d → Contains begun d ⊎ (s ≡ d)) → ((d : ℕ) → Contains begun d ⊎ (s ≡ d) → Contains later d) → AreNeeded z later new
needed_more z begun later s old new q r next back = record {
  from = λ x c. elim (r.from x c) [
    | inl o ↦ let k = q.from x o in (k.0, back k.0 (inl k.1), k.2, k.3)
    | inr k ↦ (s, back s (inr refl), k.0, k.1)
  ];
  has = λ d t u c a b. elim (next d c) [
    | inl o ↦ elim (q.has d t u o a b) [ inl h ↦ inl (r.kept (item_of t u Merge) h) | inr k ↦ inr k ]
    | inr e ↦
        let has_own = r.has t u (subst (λ i. SpreadsTo (nodes_of z) i t) (sym e) a) (subst (λ i. SpreadsTo (nodes_of z) i u) (sym e) b) in
        elim has_own [ inl h ↦ inl h | inr k ↦ inr (k.0, subst (λ i. Contains ((nodes_of z).spreads i) k.0) e k.1, k.2, k.3) ]
  ];
}

pub needed_all : (z : Sets) (bodies : List ℕ) (i : ℕ) (pairs : List Item) → length bodies ≤ i → AreNeeded z (take i bodies) pairs → AreNeeded z bodies pairs
needed_all z bodies i pairs le q = subst (λ l. AreNeeded z l pairs) (take_all i bodies le) q

-- ---- what clashes among the needed pairs is what clashes

module _ (z : Sets) (bodies : List ℕ) (pairs : List Item) (q : AreNeeded z bodies pairs)
    (clean : (s c : ℕ) → Contains bodies s → Contains ((nodes_of z).spreads s) c → IsCleanBody z c) where
  abbrev Among : ℕ → ℕ → Mode → Type 0
  Among = IsClash (nodes_of z) (SeedsAmong (nodes_of z) pairs)

  abbrev Here : Type 0
  Here = (x : Item) × Contains pairs x

  of_one : (s : ℕ) → Contains bodies s → (f g : ℕ) (m : Mode) → IsClash (nodes_of z) (SeedsOf (nodes_of z) (s ∷ [])) f g m → IsClash (nodes_of z) (SeedsOf (nodes_of z) bodies) f g m
  of_one s c f g m h = (
    reached_by (nodes_of z) (SeedsOf (nodes_of z) (s ∷ [])) (SeedsOf (nodes_of z) bodies) (λ x y b.
        let e = one_of s b.0 b.1 in
        (s, c, subst (λ i. FieldsOf (nodes_of z) i x) e b.2, subst (λ i. FieldsOf (nodes_of z) i y) e b.3)) h.0,
    h.1,
  )

  sound : (f g : ℕ) (m : Mode) → Among f g m → IsClash (nodes_of z) (SeedsOf (nodes_of z) bodies) f g m
  sound f g m h =
      let r = reached_of (nodes_of z) Here (λ i. SeedsBetween (nodes_of z) i.0.left i.0.right)
      (reached_by (nodes_of z) (SeedsAmong (nodes_of z) pairs) (λ x y. (i : Here) × SeedsBetween (nodes_of z) i.0.left i.0.right x y) (λ x y b. ((b.0, b.1), b.2)) h.0) in
      let p = q.from r.0.0 r.0.1 in
      of_one p.0 p.1 f g m (from_parts (nodes_of z) p.0 f g m (r.0.0.left, r.0.0.right, p.2, p.3, (r.1, h.1)))

  at_pair : (x : Item) → Contains pairs x → (f g : ℕ) (m : Mode) → IsClash (nodes_of z) (SeedsBetween (nodes_of z) x.left x.right) f g m → Among f g m
  at_pair x c f g m h = (reached_by (nodes_of z) (SeedsBetween (nodes_of z) x.left x.right) (SeedsAmong (nodes_of z) pairs) (λ a b d. (x, c, d)) h.0, h.1)

  at_two : (t u : ℕ) → Contains pairs (item_of t u Merge) → (f g : ℕ) (m : Mode) → IsClash (nodes_of z) (SeedsBetween (nodes_of z) t u) f g m → Among f g m
  at_two t u c f g m h = elim (cases_lt u t) [
    | inl l ↦ at_pair (item u t Merge) (subst (Contains pairs) (item_more t u Merge l) c) f g m (between_turns (nodes_of z) (number_tests z).one (number_tests z).name t u f g m h)
    | inr k ↦ at_pair (item t u Merge) (subst (Contains pairs) (item_less t u Merge k) c) f g m h
  ]

  complete : (f g : ℕ) (m : Mode) → IsClash (nodes_of z) (SeedsOf (nodes_of z) bodies) f g m → Among f g m
  complete f g m h =
      let r = in_one (nodes_of z) bodies h in
      let p = to_parts (nodes_of z) r.0 f g m r.2 in
      elim (q.has r.0 p.0 p.1 r.1 p.2 p.3) [
        | inl c ↦ at_two p.0 p.1 c f g m p.4
        | inr k ↦ absurd (clean r.0 k.0 r.1 k.1 f g m (from_parts (nodes_of z) k.0 f g m (p.0, p.1, k.2, k.3, p.4)))
      ]

  pub needed_lists : (found : List Pair) → Lists found (IsClashPair z (SeedsAmong (nodes_of z) pairs)) → Lists found (IsClashPair z (SeedsOf (nodes_of z) bodies))
  needed_lists found l = record {
    sound = λ p c. let h = l.sound p c in (h.0, sound p.first p.second p.mode h.1);
    complete = λ p h. l.complete p (h.0, complete p.first p.second p.mode h.1);
  }

-- a needed pair is one of bodies
pub needed_inside : (z : Sets) (w : IsWhole z) (bodies : List ℕ) (pairs : List Item) → ((s : ℕ) → Contains bodies s → s < length z.bodies.items) → AreNeeded z bodies pairs → (x : Item) → Contains pairs x → IsInside (length z.bodies.items) x
needed_inside z w bodies pairs h q x c = let k = q.from x c in (inside_to z w (h k.0 k.1) k.2, inside_to z w (h k.0 k.1) k.3)
