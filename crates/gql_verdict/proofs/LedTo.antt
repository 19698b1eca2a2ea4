-- The verdicts that steps lead to, as readers of keys: which come and which go.
use Rattle.std.proofs.Common.{◌≡◌, ◌⊎◌, ◌<◌, inl, inr, ℕ, zero, suc, List, [], ◌∷◌, ◌++◌, Bool, true, false, length, map, take, drop, ◌+◌, get_or, refl, ap, sym, subst, ◌∙◌, Contains, arith}
use Rattle.std.specs.List.{AllPairs, AllZip}
use Rattle.std.specs.declared.cmp.Ordering.TheVariants.{Less}
use Rattle.std.proofs.lemmas.List.{drop_more, get_or_default, length-take-le, map-append, take-append-drop}
use Rattle.std.proofs.lemmas.List.Elements.{Contains-get_or, Contains-append_left, Contains-append_right}
use Rattle.std.proofs.lemmas.List.Kept.{AllPairs-cons}
use Rattle.gql_ast.specs.Trees.{id_of}
use Rattle.gql_ast.specs.declared.definition.Definition.{Definition}
use Rattle.gql_ast.specs.declared.definition.DefinitionId.{DefinitionId}
use Rattle.gql_facts.specs.ListMembers.{Contains-nil, Contains-here, Contains-there, Contains-cases, Contains-map, either}
use Rattle.gql_facts.specs.Worlds.{Facts}
use Rattle.gql_readers.specs.Changes.{AreNotesBetween, IsChange, IsDifference, IsEdit, IsNew, Notes}
use Rattle.gql_readers.specs.Indexes.{Reading}
use Rattle.gql_readers.specs.Orders.{AreInOrder, id_order}
use Rattle.gql_readers.specs.Readers.{InReadingOrder, Reader}
use Rattle.gql_readers.proofs.Between.{whole_differ}
use Rattle.gql_readers.proofs.Merging.{pairs_head, pairs_none, pairs_tail}
use Rattle.gql_readers.proofs.Reading.{pairs_map_from, pairs_map_to}
use Rattle.gql_reads.proofs.Members.{Contains-map_from}
use Rattle.gql_reads.specs.Leading.{AreLed}
use Rattle.gql_reads.specs.Observations.{Hold, observed_in}
use Rattle.gql_reads.specs.declared.observation.Observation.{Observation}
use Rattle.gql_verdict.specs.FileOrder.{InFileOrder, IsBefore}
use Rattle.gql_verdict.specs.Marks.{AreKept, AreNew, IsMarked, IsShelved, gone}
use Rattle.gql_verdict.specs.Plans.{IsStep}
use Rattle.gql_verdict.specs.Readings.{reader_of, readers}
use Rattle.gql_verdict.specs.Shelves.{defs}
use Rattle.gql_verdict.specs.Slots.{IsAt, IsInOrder, resolve, verdicts}
use Rattle.gql_verdict.specs.Verdicts.{Judgement}
use Rattle.gql_verdict.specs.declared.slot.Slot.{Slot}
use Rattle.gql_verdict.specs.declared.slot.Slot.TheVariants.{At, Here}
use Rattle.gql_verdict.proofs.Marking.{same_index}
use Rattle.gql_verdict.proofs.Ordered.{apart, index_of, kept_at}
use Rattle.gql_verdict.proofs.Refreshed.{IsServed, resolved, served}
use Rattle.gql_verdict.proofs.Seen.{take_next}

-- ---- verdicts in slots

abbrev Before : Judgement → Judgement → Type 0
Before v w = IsBefore v.def w.def

pub here_in : (slots : List Slot) (v : Judgement) → Contains slots (Here v) → Contains (verdicts slots) v
here_in [] v c = absurd (Contains-nil (Here v) c)
here_in (Here w ∷ slots) v c = elim (Contains-cases (Here v) (Here w) slots c) [
  | inl e ↦ let s : v ≡ w = cc e in subst (λ x. Contains (w ∷ verdicts slots) x) (sym s) (Contains-here w (verdicts slots))
  | inr t ↦ Contains-there v w (verdicts slots) (here_in slots v t)
]
here_in (At j ∷ slots) v c = elim (Contains-cases (Here v) (At j) slots c) [
  | inl e ↦ let t : Here v ≡ At j = e in cc t
  | inr t ↦ here_in slots v t
]

here_from : (slots : List Slot) (v : Judgement) → Contains (verdicts slots) v → Contains slots (Here v)
here_from [] v c = absurd (Contains-nil v c)
here_from (Here w ∷ slots) v c = elim (Contains-cases v w (verdicts slots) c) [
  | inl e ↦ subst (λ (x : Judgement). Contains (Here w ∷ slots) (Here x)) (sym e) (Contains-here (Here w) slots)
  | inr t ↦ Contains-there (Here v) (Here w) slots (here_from slots v t)
]
here_from (At j ∷ slots) v c = Contains-there (Here v) (At j) slots (here_from slots v c)

pub verdicts_append : (xs ys : List Slot) → verdicts (xs ++ ys) ≡ verdicts xs ++ verdicts ys
verdicts_append [] ys = refl
verdicts_append (Here v ∷ xs) ys = ap (λ vs. v ∷ vs) (verdicts_append xs ys)
verdicts_append (At j ∷ xs) ys = verdicts_append xs ys

-- ---- those that go

gone_in : (slots : List Slot) (marks : List Bool) (v : Judgement) → Contains (gone slots marks) v → Contains (verdicts slots) v
gone_in [] marks v c = absurd (Contains-nil v c)
gone_in (s ∷ slots) [] v c = absurd (Contains-nil v c)
gone_in (Here w ∷ slots) (true ∷ marks) v c = Contains-there v w (verdicts slots) (gone_in slots marks v c)
gone_in (At j ∷ slots) (true ∷ marks) v c = gone_in slots marks v c
gone_in (Here w ∷ slots) (false ∷ marks) v c = elim (Contains-cases v w (gone slots marks) c) [
  | inl e ↦ subst (λ x. Contains (w ∷ verdicts slots) x) (sym e) (Contains-here w (verdicts slots))
  | inr t ↦ Contains-there v w (verdicts slots) (gone_in slots marks v t)
]
gone_in (At j ∷ slots) (false ∷ marks) v c = gone_in slots marks v c

gone_order : (slots : List Slot) (marks : List Bool) → AllPairs Before (verdicts slots) → AllPairs Before (gone slots marks)
gone_order [] marks all = pairs_none Before
gone_order (s ∷ slots) [] all = pairs_none Before
gone_order (Here w ∷ slots) (true ∷ marks) all = gone_order slots marks (pairs_tail Before w (verdicts slots) all)
gone_order (At j ∷ slots) (true ∷ marks) all = gone_order slots marks all
gone_order (Here w ∷ slots) (false ∷ marks) all = AllPairs-cons Before w (gone slots marks)
    (λ i d l. pairs_head Before w (verdicts slots) all (get_or (gone slots marks) i d) (gone_in slots marks (get_or (gone slots marks) i d) (Contains-get_or (gone slots marks) i d l)))
    (gone_order slots marks (pairs_tail Before w (verdicts slots) all))
gone_order (At j ∷ slots) (false ∷ marks) all = gone_order slots marks all

at_next : (s : Slot) (slots : List Slot) (j : ℕ) (v : Judgement) → IsAt slots j v → IsAt (s ∷ slots) (suc j) v
at_next s slots j v a = record { within = omega (arith, a.within); is = a.is }

at_rest : (s : Slot) (slots : List Slot) (j : ℕ) (v : Judgement) → IsAt (s ∷ slots) (suc j) v → IsAt slots j v
at_rest s slots j v a = record { within = omega (arith, a.within); is = a.is }

abbrev IsGoneAt : List Slot → List Bool → Judgement → Type 0
IsGoneAt slots marks v = (j : ℕ) × IsAt slots j v × (IsMarked marks j → ⊥)

gone_next : (s : Slot) (slots : List Slot) (b : Bool) (marks : List Bool) (v : Judgement) → IsGoneAt slots marks v → IsGoneAt (s ∷ slots) (b ∷ marks) v
gone_next s slots b marks v g = (suc g.0, at_next s slots g.0 v g.1, g.2)

gone_from : (slots : List Slot) (marks : List Bool) (v : Judgement) → Contains (gone slots marks) v → IsGoneAt slots marks v
gone_from [] marks v c = absurd (Contains-nil v c)
gone_from (s ∷ slots) [] v c = absurd (Contains-nil v c)
gone_from (s ∷ slots) (true ∷ marks) v c = gone_next s slots true marks v (gone_from slots marks v c)
gone_from (Here w ∷ slots) (false ∷ marks) v c = elim (Contains-cases v w (gone slots marks) c) [
  | inl e ↦ subst (λ (x : Judgement). IsGoneAt (Here w ∷ slots) (false ∷ marks) x) (sym e) (0, record { within = omega arith; is = λ s. refl }, λ m. let t : false ≡ true = m in cc t)
  | inr t ↦ gone_next (Here w) slots false marks v (gone_from slots marks v t)
]
gone_from (At j ∷ slots) (false ∷ marks) v c = gone_next (At j) slots false marks v (gone_from slots marks v c)

gone_has : (slots : List Slot) (marks : List Bool) (j : ℕ) (v : Judgement) → IsAt slots j v → j < length marks → get_or marks j false ≡ false → Contains (gone slots marks) v
gone_has [] marks j v a l e = absurd (omega (arith, a.within))
gone_has (s ∷ slots) [] j v a l e = absurd (omega (arith, l))
gone_has (s ∷ slots) (true ∷ marks) zero v a l e = absurd (let t : true ≡ false = e in cc)
gone_has (s ∷ slots) (true ∷ marks) (suc j) v a l e = gone_has slots marks j v (at_rest s slots j v a) (omega (arith, l)) e
gone_has (Here w ∷ slots) (false ∷ marks) zero v a l e = let q : Here w ≡ Here v = a.is (At 0) in let s : w ≡ v = cc q in subst (λ x. Contains (w ∷ gone slots marks) x) s (Contains-here w (gone slots marks))
gone_has (Here w ∷ slots) (false ∷ marks) (suc j) v a l e = Contains-there v w (gone slots marks) (gone_has slots marks j v (at_rest (Here w) slots j v a) (omega (arith, l)) e)
gone_has (At k ∷ slots) (false ∷ marks) zero v a l e = let q : At k ≡ Here v = a.is (At 0) in cc q
gone_has (At k ∷ slots) (false ∷ marks) (suc j) v a l e = gone_has slots marks j v (at_rest (At k) slots j v a) (omega (arith, l)) e

pub gone_append : (xs ys : List Slot) (bs cs : List Bool) → length bs ≡ length xs → gone (xs ++ ys) (bs ++ cs) ≡ gone xs bs ++ gone ys cs
gone_append [] ys [] cs e = refl
gone_append [] ys (b ∷ bs) cs e = absurd (omega (arith, e))
gone_append (x ∷ xs) ys [] cs e = absurd (omega (arith, e))
gone_append (x ∷ xs) ys (true ∷ bs) cs e = gone_append xs ys bs cs (omega (arith, e))
gone_append (Here v ∷ xs) ys (false ∷ bs) cs e = ap (λ vs. v ∷ vs) (gone_append xs ys bs cs (omega (arith, e)))
gone_append (At j ∷ xs) ys (false ∷ bs) cs e = gone_append xs ys bs cs (omega (arith, e))

-- ---- those that come

tail_in : (s : Slot) (slots : List Slot) (v : Judgement) → Contains (verdicts slots) v → Contains (verdicts (s ∷ slots)) v
tail_in (Here w) slots v c = Contains-there v w (verdicts slots) c
tail_in (At j) slots v c = c

new_in : (kept steps : List Slot) (v : Judgement) → Contains (verdicts steps) v → Contains (verdicts (map (resolve kept) steps)) v
new_in kept [] v c = absurd (Contains-nil v c)
new_in kept (Here w ∷ steps) v c = elim (Contains-cases v w (verdicts steps) c) [
  | inl e ↦ subst (λ x. Contains (w ∷ verdicts (map (resolve kept) steps)) x) (sym e) (Contains-here w (verdicts (map (resolve kept) steps)))
  | inr t ↦ Contains-there v w (verdicts (map (resolve kept) steps)) (new_in kept steps v t)
]
new_in kept (At j ∷ steps) v c = tail_in (resolve kept (At j)) (map (resolve kept) steps) v (new_in kept steps v c)

new_order : (F : Facts) (kept : List Slot) (ds : List Definition) (steps : List Slot) → AllZip (IsStep F kept) ds steps → AllPairs Before (verdicts (map (resolve kept) steps)) → AllPairs Before (verdicts steps)
new_order F kept ds [] z all = pairs_none Before
new_order F kept [] (s ∷ ss) z all = absurd z
new_order F kept (d ∷ ds) (Here w ∷ ss) z all = AllPairs-cons Before w (verdicts ss)
    (λ i e l. pairs_head Before w (verdicts (map (resolve kept) ss)) all (get_or (verdicts ss) i e) (new_in kept ss (get_or (verdicts ss) i e) (Contains-get_or (verdicts ss) i e l)))
    (new_order F kept ds ss z.1 (pairs_tail Before w (verdicts (map (resolve kept) ss)) all))
new_order F kept (d ∷ ds) (At j ∷ ss) z all =
    let r = resolved F kept d (At j) z.0 in
    new_order F kept ds ss z.1 (pairs_tail Before r.0 (verdicts (map (resolve kept) ss)) (subst (λ (x : Slot). AllPairs Before (verdicts (x ∷ map (resolve kept) ss))) r.1 all))

step_of : (F : Facts) (kept : List Slot) (ds : List Definition) (steps : List Slot) → AllZip (IsStep F kept) ds steps → (s : Slot) → Contains steps s → (d : Definition) × IsStep F kept d s
step_of F kept ds [] z s c = absurd (Contains-nil s c)
step_of F kept [] (x ∷ ss) z s c = absurd z
step_of F kept (d ∷ ds) (x ∷ ss) z s c = elim (Contains-cases s x ss c) [
  | inl e ↦ (d, subst (λ y. IsStep F kept d y) (sym e) z.0)
  | inr t ↦ step_of F kept ds ss z.1 s t
]

-- ---- readers in order

before_from : (vs : List Judgement) → InFileOrder (defs vs) → AllPairs Before vs
before_from vs up = pairs_map_from IsBefore (λ (v : Judgement). v.def) vs up

pub in_reading : (vs : List Judgement) → AllPairs Before vs → InReadingOrder (readers vs)
in_reading vs all = pairs_map_to (λ (a b : DefinitionId). id_order a b ≡ Less) (λ (r : Reader). r.id) (readers vs)
    (pairs_map_to (λ (r s : Reader). id_order r.id s.id ≡ Less) reader_of vs all)

-- ---- the edit

module _ (F : Facts) (kept : List Slot) (ds : List Definition) (steps : List Slot) (marks : List Bool)
    (shelved : IsInOrder kept) (up : InFileOrder ds) (zip : AllZip (IsStep F kept) ds steps) (are : AreKept steps (length kept) marks) where
  serve : IsServed F ds (map (resolve kept) steps)
  serve = served F kept ds steps zip

  after_order : AllPairs Before (verdicts (map (resolve kept) steps))
  after_order = before_from (verdicts (map (resolve kept) steps)) (subst (λ (es : List Definition). InFileOrder es) (sym serve.each) up)

  stayed : (v : Judgement) → Contains (verdicts kept) v → (Contains (gone kept marks) v → ⊥) → Contains (verdicts (map (resolve kept) steps)) v
  stayed v c n =
      let i = index_of kept shelved.all_here v c in
      let at : IsAt kept i.0 v = record { within = i.1; is = λ s. get_or_default kept i.0 s (Here v) i.1 ∙ i.2 } in
      elim (either (get_or marks i.0 false)) [
        | inl m ↦ here_in (map (resolve kept) steps) v (subst (λ (s : Slot). Contains (map (resolve kept) steps) s) (at.is (At i.0)) (Contains-map (resolve kept) steps (At i.0) (are.from i.0 m)))
        | inr m ↦ absurd (n (gone_has kept marks i.0 v at (subst (λ n. i.0 < n) (sym are.long) i.1) m))
      ]

  came_from : (w : Judgement) → Contains (verdicts (map (resolve kept) steps)) w
      → Contains (verdicts steps) w ⊎ (Contains (verdicts kept) w × ((g : Judgement) → Contains (gone kept marks) g → id_of g.def ≡ id_of w.def → ⊥))
  came_from w c =
      let s = Contains-map_from (resolve kept) steps (Here w) (here_from (map (resolve kept) steps) w c) in
      by_step s.0 s.1 s.2
    where
      by_step : (s : Slot) → Contains steps s → resolve kept s ≡ Here w → Contains (verdicts steps) w ⊎ (Contains (verdicts kept) w × ((g : Judgement) → Contains (gone kept marks) g → id_of g.def ≡ id_of w.def → ⊥))
      by_step (Here v) m e = let q : v ≡ w = cc e in inl (here_in steps w (subst (λ (x : Judgement). Contains steps (Here x)) q m))
      by_step (At j) m e =
          let t = step_of F kept ds steps zip (At j) m in
          let q : Here t.1.0 ≡ Here w = sym (t.1.1.is (At j)) ∙ e in
          let same : t.1.0 ≡ w = cc q in
          let at : IsAt kept j w = subst (λ (x : Judgement). IsAt kept j x) same t.1.1 in
          inr (
            kept_at kept shelved j w at,
            λ g h p.
                let i = gone_from kept marks g h in
                i.2 (subst (λ n. IsMarked marks n) (same_index kept shelved j i.0 w g at i.1 (sym p)) (are.to j at.within m)),
          )

  pub gone_rises : InReadingOrder (readers (gone kept marks))
  gone_rises = in_reading (gone kept marks) (gone_order kept marks (before_from (verdicts kept) shelved.order))

  pub new_rises : InReadingOrder (readers (verdicts steps))
  new_rises = in_reading (verdicts steps) (new_order F kept ds steps zip after_order)

  module _ (notes : Notes) (b : AreNotesBetween notes (readers (gone kept marks)) (readers (verdicts steps))) where
    kept_order : InReadingOrder (readers (verdicts kept))
    kept_order = in_reading (verdicts kept) (before_from (verdicts kept) shelved.order)

    differ_of : IsDifference (readers (verdicts kept)) b.going b.coming (readers (verdicts (map (resolve kept) steps)))
    differ_of = whole_differ (readers (verdicts kept)) (readers (gone kept marks)) (readers (verdicts steps)) (readers (verdicts (map (resolve kept) steps))) kept_order
        (λ r c. let m = Contains-map_from reader_of (gone kept marks) r c in subst (λ (x : Reader). Contains (readers (verdicts kept)) x) m.2 (Contains-map reader_of (verdicts kept) m.0 (gone_in kept marks m.0 m.1)))
        (λ r c. let m = Contains-map_from reader_of (verdicts steps) r c in subst (λ (x : Reader). Contains (readers (verdicts (map (resolve kept) steps))) x) m.2 (Contains-map reader_of (verdicts (map (resolve kept) steps)) m.0 (new_in kept steps m.0 m.1)))
        (λ r c n.
        let m = Contains-map_from reader_of (verdicts kept) r c in
        subst (λ (x : Reader). Contains (readers (verdicts (map (resolve kept) steps))) x) m.2 (Contains-map reader_of (verdicts (map (resolve kept) steps)) m.0
        (stayed m.0 m.1 (λ g. n (reader_of m.0) (Contains-map reader_of (gone kept marks) m.0 g) (ap (λ (x : Reader). x.id) m.2)))))
        (λ r c.
        let m = Contains-map_from reader_of (verdicts (map (resolve kept) steps)) r c in
        elim (came_from m.0 m.1) [
          | inl n ↦ inl (subst (λ (x : Reader). Contains (readers (verdicts steps)) x) m.2 (Contains-map reader_of (verdicts steps) m.0 n))
          | inr o ↦ inr (
            subst (λ (x : Reader). Contains (readers (verdicts kept)) x) m.2 (Contains-map reader_of (verdicts kept) m.0 o.0),
            λ g h e.
                let k = Contains-map_from reader_of (gone kept marks) g h in
                o.1 k.0 k.1 (ap (λ (x : Reader). x.id) k.2 ∙ e ∙ sym (ap (λ (x : Reader). x.id) m.2)),
          )
        ])
        b.going b.coming b.difference

    edit_of : IsEdit F (readers (verdicts kept)) b.going b.coming (readers (verdicts (map (resolve kept) steps)))
    edit_of = record {
      old_order = kept_order;
      going_order = subst (λ (is : List DefinitionId). AreInOrder is) (sym b.going_ids) gone_rises;
      coming_order = subst (λ (is : List DefinitionId). AreInOrder is) (sym b.coming_ids) new_rises;
      new_order = in_reading (verdicts (map (resolve kept) steps)) after_order;
      difference = differ_of;
      holds = λ r c. let m = Contains-map_from reader_of (verdicts (map (resolve kept) steps)) r c in subst (λ (x : Reader). Hold F (observed_in x.answers)) m.2 (subst (λ (os : List Observation). Hold F os) (serve.reads m.0 m.1).flat (serve.holds m.0 m.1));
      led = λ r c. let m = Contains-map_from reader_of (verdicts (map (resolve kept) steps)) r c in subst (λ (x : Reader). AreLed x.answers) m.2 (serve.reads m.0 m.1).led;
    }

-- ---- one step more

across : {X : Type 0} (R : X → X → Type 0) (xs ys : List X) → AllPairs R (xs ++ ys) → (x y : X) → Contains xs x → Contains ys y → R x y
across R [] ys all x y c d = absurd (Contains-nil x c)
across R (z ∷ xs) ys all x y c d = elim (Contains-cases x z xs c) [
  | inl e ↦ subst (λ w. R w y) (sym e) (pairs_head R z (xs ++ ys) all y (Contains-append_right xs ys y d))
  | inr t ↦ across R xs ys (pairs_tail R z (xs ++ ys) all) x y t d
]

-- those that are read later are on other definitions
pub later_new : (vs ws : List Judgement) → InReadingOrder (readers (vs ++ ws)) → AreNew ws (readers vs)
later_new vs ws up v c r d e =
    let m = Contains-map_from reader_of vs r d in
    let all : AllPairs Before (vs ++ ws) = pairs_map_from (λ (r s : Reader). id_order r.id s.id ≡ Less) reader_of (vs ++ ws) (pairs_map_from (λ (a b : DefinitionId). id_order a b ≡ Less) (λ (x : Reader). x.id) (readers (vs ++ ws)) up) in
    apart m.0.def v.def (across Before vs ws all m.0 v m.1 c) (ap (λ (x : Reader). x.id) m.2 ∙ e)

front_new : (vs ws rest : List Judgement) → InReadingOrder (readers (vs ++ (ws ++ rest))) → AreNew ws (readers vs)
front_new vs ws rest up v c = later_new vs (ws ++ rest) up v (Contains-append_left ws rest v c)

module _ (steps : List Slot) (i : ℕ) (s : Slot) (lt : i < length steps) (is : s ≡ get_or steps i s) where
  split_steps : verdicts steps ≡ verdicts (take i steps) ++ (verdicts (s ∷ []) ++ verdicts (drop (i + 1) steps))
  split_steps = ap verdicts (sym (take-append-drop i steps)) ∙ verdicts_append (take i steps) (drop i steps)
      ∙ ap (λ ss. verdicts (take i steps) ++ verdicts ss) (drop_more steps i s lt ∙ ap (λ x. x ∷ drop (i + 1) steps) (sym is))
      ∙ ap (λ vs. verdicts (take i steps) ++ vs) (verdicts_append (s ∷ []) (drop (i + 1) steps))

  pub step_new : InReadingOrder (readers (verdicts steps)) → AreNew (verdicts (s ∷ [])) (readers (verdicts (take i steps)))
  step_new up = front_new (verdicts (take i steps)) (verdicts (s ∷ [])) (verdicts (drop (i + 1) steps)) (subst (λ vs. InReadingOrder (readers vs)) split_steps up)

  pub steps_more : readers (verdicts (take i steps)) ++ readers (verdicts (s ∷ [])) ≡ readers (verdicts (take (i + 1) steps))
  steps_more = sym (map-append reader_of (verdicts (take i steps)) (verdicts (s ∷ []))) ∙ ap readers (sym (verdicts_append (take i steps) (s ∷ [])) ∙ ap verdicts (sym (take_next steps i s lt is)))

module _ (slots : List Slot) (marks : List Bool) (i : ℕ) (s : Slot) (b : Bool) (long : length marks ≡ length slots) (lt : i < length slots) (is : s ≡ get_or slots i s) (mark : b ≡ get_or marks i b) where
  mlt : i < length marks
  mlt = subst (λ n. i < n) (sym long) lt

  front_long : length (take i marks) ≡ length (take i slots)
  front_long = length-take-le i marks (omega (arith, mlt)) ∙ sym (length-take-le i slots (omega (arith, lt)))

  pub gone_more : gone (take i slots) (take i marks) ++ gone (s ∷ []) (b ∷ []) ≡ gone (take (i + 1) slots) (take (i + 1) marks)
  gone_more = sym (gone_append (take i slots) (s ∷ []) (take i marks) (b ∷ []) front_long)
      ∙ ap (λ ss. gone ss (take i marks ++ b ∷ [])) (sym (take_next slots i s lt is)) ∙ ap (λ bs. gone (take (i + 1) slots) bs) (sym (take_next marks i b mlt mark))

  gone_split : gone slots marks ≡ gone (take i slots) (take i marks) ++ (gone (s ∷ []) (b ∷ []) ++ gone (drop (i + 1) slots) (drop (i + 1) marks))
  gone_split = ap (λ ss. gone ss marks) (sym (take-append-drop i slots)) ∙ ap (λ bs. gone (take i slots ++ drop i slots) bs) (sym (take-append-drop i marks))
      ∙ gone_append (take i slots) (drop i slots) (take i marks) (drop i marks) front_long
      ∙ ap (λ ss. gone (take i slots) (take i marks) ++ gone ss (drop i marks)) (drop_more slots i s lt ∙ ap (λ x. x ∷ drop (i + 1) slots) (sym is))
      ∙ ap (λ bs. gone (take i slots) (take i marks) ++ gone (s ∷ drop (i + 1) slots) bs) (drop_more marks i b mlt ∙ ap (λ x. x ∷ drop (i + 1) marks) (sym mark))
      ∙ ap (λ vs. gone (take i slots) (take i marks) ++ vs) (gone_append (s ∷ []) (drop (i + 1) slots) (b ∷ []) (drop (i + 1) marks) refl)

  pub gone_new : InReadingOrder (readers (gone slots marks)) → AreNew (gone (s ∷ []) (b ∷ [])) (readers (gone (take i slots) (take i marks)))
  gone_new up = front_new (gone (take i slots) (take i marks)) (gone (s ∷ []) (b ∷ [])) (gone (drop (i + 1) slots) (drop (i + 1) marks)) (subst (λ vs. InReadingOrder (readers vs)) gone_split up)

  pub gone_readers : readers (gone (take i slots) (take i marks)) ++ readers (gone (s ∷ []) (b ∷ [])) ≡ readers (gone (take (i + 1) slots) (take (i + 1) marks))
  gone_readers = sym (map-append reader_of (gone (take i slots) (take i marks)) (gone (s ∷ []) (b ∷ []))) ∙ ap readers gone_more

-- ---- one verdict noted

pub came_one : (s : Slot) (v : Judgement) → s ≡ Here v → (olds news : List Reader) (notes : Notes)
    → (IsNew (id_of v.def) news → AreNotesBetween notes olds (news ++ reader_of v ∷ [])) → AreNew (verdicts (s ∷ [])) news → AreNotesBetween notes olds (news ++ readers (verdicts (s ∷ [])))
came_one s v e olds news notes f = subst (λ (x : Slot). AreNew (verdicts (x ∷ [])) news → AreNotesBetween notes olds (news ++ readers (verdicts (x ∷ [])))) (sym e) (λ fresh. f (fresh v (Contains-here v [])))

pub went_one : (s : Slot) (b : Bool) (v : Judgement) → s ≡ Here v → b ≡ false → (olds news : List Reader) (notes : Notes)
    → (IsNew (id_of v.def) olds → AreNotesBetween notes (olds ++ reader_of v ∷ []) news) → AreNew (gone (s ∷ []) (b ∷ [])) olds → AreNotesBetween notes (olds ++ readers (gone (s ∷ []) (b ∷ []))) news
went_one s b v e f olds news notes g = subst (λ (x : Slot). AreNew (gone (x ∷ []) (b ∷ [])) olds → AreNotesBetween notes (olds ++ readers (gone (x ∷ []) (b ∷ []))) news) (sym e)
    (subst (λ (t : Bool). AreNew (gone (Here v ∷ []) (t ∷ [])) olds → AreNotesBetween notes (olds ++ readers (gone (Here v ∷ []) (t ∷ []))) news) (sym f) (λ fresh. g (fresh v (Contains-here v []))))

-- the verdict in a slot that is not marked
module _ (slots : List Slot) (marks : List Bool) (i : ℕ) (w : Judgement) (long : length marks ≡ length slots) (lt : i < length slots) (is : Here w ≡ get_or slots i (Here w)) (mark : get_or marks i false ≡ false) where
  unmarked : false ≡ get_or marks i false
  unmarked = sym mark

  pub place_new : InReadingOrder (readers (gone slots marks)) → IsNew (id_of w.def) (readers (gone (take i slots) (take i marks)))
  place_new up = gone_new slots marks i (Here w) false long lt is unmarked up w (Contains-here w [])

  pub place_readers : readers (gone (take i slots) (take i marks)) ++ reader_of w ∷ [] ≡ readers (gone (take (i + 1) slots) (take (i + 1) marks))
  place_readers = gone_readers slots marks i (Here w) false long lt is unmarked

-- the verdict that is in a slot
pub is_there : (slots : List Slot) (i : ℕ) (v : Judgement) (s : Slot) → IsAt slots i v → s ≡ get_or slots i s → s ≡ Here v
is_there slots i v s at is = is ∙ at.is s

pub same_verdict : (v w : Judgement) (s : Slot) → s ≡ Here v → s ≡ Here w → v ≡ w
same_verdict v w s e f = let q : Here v ≡ Here w = sym e ∙ f in cc q

pub not_there : (v : Judgement) (j : ℕ) (s : Slot) → s ≡ Here v → s ≡ At j → ⊥
not_there v j s e f = let q : Here v ≡ At j = sym e ∙ f in cc q

-- the notes of those that come and go are a change of the index
pub led_change : (F : Facts) (kept : List Slot) (ds : List Definition) (steps : List Slot) (marks : List Bool) → (index : List Reading) → IsShelved kept index → InFileOrder ds → AllZip (IsStep F kept) ds steps → AreKept steps (length kept) marks
    → (notes : Notes) → (b : AreNotesBetween notes (readers (gone kept marks)) (readers (verdicts steps)))
    → IsChange F index notes (readers (verdicts kept)) b.going b.coming (readers (verdicts (map (resolve kept) steps)))
led_change F kept ds steps marks index shelved up zip are notes b = record { index_of = shelved.reads; notes_of = b.notes_of; edit = edit_of F kept ds steps marks shelved.order up zip are notes b }
