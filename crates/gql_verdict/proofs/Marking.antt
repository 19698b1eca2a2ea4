-- Marks of the kept verdicts that an edit has broken.
use Rattle.std.proofs.Common.{◌≡◌, ◌≢◌, ◌⊎◌, ◌<◌, inl, inr, ℕ, zero, suc, List, [], ◌∷◌, Bool, true, false, length, map, get_or, refl, ap, sym, subst, ◌∙◌, Contains, arith, find, bytes_eq, is_some, Some, None, Option}
use Rattle.std.proofs.Math.ListN.{set}
use Rattle.std.proofs.lemmas.List.{get_or-map, get_or-set_other, get_or-set_same, length-map}
use Rattle.std.specs.Cmp.Lexicographic.{same_text}
use Rattle.gql_ast.specs.Trees.{id_of}
use Rattle.gql_ast.specs.declared.definition.DefinitionId.{DefinitionId}
use Rattle.gql_facts.specs.ListMembers.{Contains-nil, Contains-here, Contains-cases, Contains-map, Contains-flat_map, Contains-flat_map_from, found_in}
use Rattle.gql_facts.specs.Worlds.{Facts}
use Rattle.gql_facts.specs.declared.key.Key.{Key}
use Rattle.gql_facts.specs.declared.key.Key.TheVariants as key
use Rattle.gql_pairs.specs.Doubts.{in_doubt}
use Rattle.gql_pairs.specs.declared.doubt.Doubt.{Doubt}
use Rattle.gql_readers.specs.Indexes.{AreAlike, Reading}
use Rattle.gql_readers.specs.Readers.{Reader, observes}
use Rattle.gql_readers.proofs.Alike.{alike_back, alike_there}
use Rattle.gql_readers.proofs.Editing.{one_entry}
use Rattle.gql_readers.proofs.Reading.{observes_from, observes_has, reads_from, reads_has}
use Rattle.gql_reads.proofs.Members.{Contains-map_from}
use Rattle.gql_reads.proofs.ObservedKeys.{about_each}
use Rattle.gql_reads.proofs.Recorded.{about_key}
use Rattle.gql_reads.specs.Observations.{IsBroken, about, about_all, observed, observed_in}
use Rattle.gql_reads.specs.declared.observation.Answer.{Answer}
use Rattle.gql_reads.specs.declared.observation.Observation.{Observation}
use Rattle.gql_reads.specs.declared.observation.TypeAnswers.{TypeAnswers}
use Rattle.gql_verdict.specs.Marks.{AreBroken, AreMarked, IsCompared, IsDoubtCompared, IsMarked, IsShelved, KeepMarks, OnlyMarks}
use Rattle.gql_verdict.specs.Readings.{reader_of, readers}
use Rattle.gql_verdict.specs.Slots.{IsAt, IsInOrder, verdicts}
use Rattle.gql_verdict.specs.TouchedFacts.{HoldWhere, touches}
use Rattle.gql_verdict.specs.Verdicts.{Judgement}
use Rattle.gql_verdict.specs.declared.slot.Slot.{Slot}
use Rattle.gql_verdict.specs.declared.slot.Slot.TheVariants.{At, Here}
use Rattle.gql_verdict.specs.declared.touched.FileEdit.{FileEdit}
use Rattle.gql_verdict.specs.declared.touched.Touched.{Touched}
use Rattle.gql_verdict.specs.declared.touched.Touched.TheVariants.{File}
use Rattle.gql_verdict.proofs.Ordered.{kept_at, same_definition, same_verdict, def_at}

-- ---- indices

-- what two readings at an index give is one
pub one_at : (slots : List Slot) (j : ℕ) (v w : Judgement) → IsAt slots j v → IsAt slots j w → v ≡ w
one_at slots j v w a b = let e : Here v ≡ Here w = sym (a.is (At 0)) ∙ b.is (At 0) in cc e

-- the verdict at an index
verdict_at : (slots : List Slot) → IsInOrder slots → (j : ℕ) (v : Judgement) → IsAt slots j v → (j < length (verdicts slots)) × (get_or (verdicts slots) j v ≡ v)
verdict_at slots o j v a =
    let l : j < length (map Here (verdicts slots)) = subst (λ (ss : List Slot). j < length ss) o.all_here a.within in
    let m : j < length (verdicts slots) = subst (λ n. j < n) (length-map (verdicts slots) Here) l in
    let e : Here (get_or (verdicts slots) j v) ≡ Here v = sym (get_or-map Here (verdicts slots) j v (At 0) m) ∙ sym (ap (λ (ss : List Slot). get_or ss j (At 0)) o.all_here) ∙ a.is (At 0) in
    (m, cc e)

-- verdicts on one definition are at one index
pub same_index : (slots : List Slot) → IsInOrder slots → (j k : ℕ) (v w : Judgement) → IsAt slots j v → IsAt slots k w → id_of v.def ≡ id_of w.def → j ≡ k
same_index slots o j k v w a b e =
    let p = verdict_at slots o j v a in
    let q = verdict_at slots o k w b in
    same_definition (map (λ (x : Judgement). x.def) (verdicts slots)) o.order j k v.def w.def (rw length-map p.0) (rw length-map q.0) (def_at (verdicts slots) j v p.0 p.1) (def_at (verdicts slots) k w q.0 q.1) e

either_index : (j k : ℕ) → (j ≡ k) ⊎ (k ≢ j)
either_index zero zero = inl refl
either_index zero (suc k) = inr (λ e. absurd (omega (arith, e)))
either_index (suc j) zero = inr (λ e. absurd (omega (arith, e)))
either_index (suc j) (suc k) = elim (either_index j k) [ inl e ↦ inl (ap suc e) | inr n ↦ inr (λ e. n (omega (arith, e))) ]

-- ---- one mark

pub set_marked : (marks : List Bool) (j : ℕ) → j < length marks → IsMarked (set marks j true) j
set_marked marks j l = get_or-set_same marks j true false l

pub set_keeps : (marks : List Bool) (j : ℕ) → j < length marks → KeepMarks marks (set marks j true)
set_keeps marks j l k m = elim (either_index j k) [
  | inl e ↦ subst (λ n. IsMarked (set marks j true) n) e (set_marked marks j l)
  | inr n ↦ get_or-set_other marks j k true false n ∙ m
]

pub set_only : (marks : List Bool) (j k : ℕ) → IsMarked (set marks j true) k → IsMarked marks k ⊎ (j ≡ k)
set_only marks j k m = elim (either_index j k) [
  | inl e ↦ inr e
  | inr n ↦ inl (sym (get_or-set_other marks j k true false n) ∙ m)
]

pub one_id : (id other : DefinitionId) → Contains (id ∷ []) other → other ≡ id
one_id id other c = elim (Contains-cases other id [] c) [ inl e ↦ e | inr t ↦ absurd (Contains-nil other t) ]

pub marked_here : (slots : List Slot) → IsInOrder slots → (marks : List Bool) (id : DefinitionId) (j : ℕ) → j < length marks → (v : Judgement) → IsAt slots j v → id_of v.def ≡ id → AreMarked slots (set marks j true) (id ∷ [])
marked_here slots o marks id j l v a e k w b c =
    subst (λ n. IsMarked (set marks j true) n) (same_index slots o j k v w a b (e ∙ sym (one_id id (id_of w.def) c))) (set_marked marks j l)

pub only_here : (slots : List Slot) (marks : List Bool) (id : DefinitionId) (j : ℕ) (v : Judgement) → IsAt slots j v → id_of v.def ≡ id → OnlyMarks slots marks (set marks j true) (id ∷ [])
only_here slots marks id j v a e k w b m = elim (set_only marks j k m) [
  | inl o ↦ inl o
  | inr s ↦ inr (subst (λ z. Contains (id ∷ []) z)
      (sym e ∙ ap (λ (x : Judgement). id_of x.def) (one_at slots j v w a (subst (λ n. IsAt slots n w) (sym s) b))) (Contains-here id []))
]

pub marked_none : (slots : List Slot) → IsInOrder slots → (marks : List Bool) (id : DefinitionId) → ((v : Judgement) → Contains (verdicts slots) v → id_of v.def ≡ id → ⊥) → AreMarked slots marks (id ∷ [])
marked_none slots o marks id lacks k w b c = absurd (lacks w (kept_at slots o k w b) (one_id id (id_of w.def) c))

-- ---- what an edit touches of an answer

-- the keys about types are touched by no edit of a document file
type_touched : (edit : FileEdit) (t : TypeAnswers) (o : Observation) → Contains (about t) o → touches (File edit) o.key ≡ false
type_touched edit t o c = about_each t.name (λ k. touches (File edit) k ≡ false) refl refl refl refl o.key (about_key t o c)

-- of an answer, the edit of a document file touches only the answer itself
touched_answer : (edit : FileEdit) (a : Answer) (o : Observation) → Contains (observed a) o → touches (File edit) o.key ≡ true → touches (File edit) a.observation.key ≡ true
touched_answer edit a o c y = elim (Contains-cases o a.observation (about_all a.types) c) [
  | inl e ↦ subst (λ (p : Observation). touches (File edit) p.key ≡ true) e y
  | inr r ↦ absurd (let m = Contains-flat_map_from about a.types o r in let z : true ≡ false = sym y ∙ type_touched edit m.0 o m.2 in cc z)
]

-- ---- readers

module _ (F : Facts) (slots : List Slot) (es : List Reading) (shelved : IsShelved slots es) where
  -- a reader of a key whose answer has changed is broken
  pub reader_broken : (e : Reading) → Contains es e → IsBroken F (observed e.answer) → (j : ℕ) (v : Judgement) → IsAt slots j v → Contains e.readers (id_of v.def) → IsBroken F v.observations
  reader_broken e c bad j v a m =
      let V = verdicts slots in
      let r = reads_from e.key (readers V) (id_of v.def) (subst (λ ids. Contains ids (id_of v.def)) (shelved.reads.exact e c) m) in
      let w = Contains-map_from reader_of V r.0 r.1 in
      let there = kept_at slots shelved.order j v a in
      let same : w.0 ≡ v = same_verdict V shelved.order.order w.0 v w.1 there (ap (λ (x : Reader). x.id) w.2 ∙ r.2) in
      let reads : observes e.key (reader_of v) ≡ true = subst (λ (x : Reader). observes e.key x ≡ true) (sym w.2 ∙ ap reader_of same) r.3 in
      let o = observes_from e.key (reader_of v) reads in
      let f = shelved.reads.answers (reader_of v) o.0 (Contains-map reader_of V v there) o.1 in
      let one : f.0 ≡ e = one_entry es shelved.reads.order f.0 e f.1 c (f.2 ∙ o.2) in
      let alike : AreAlike e.answer o.0 = subst (λ (x : Reading). AreAlike x.answer o.0) one f.3 in
      let seen : Contains (observed_in v.answers) bad.0 = Contains-flat_map observed v.answers o.0 bad.0 o.1 (alike_there e.answer o.0 alike bad.0 bad.1) in
      (bad.0, subst (λ os. Contains os bad.0) (sym (shelved.order.reads v there).flat) seen, bad.2)

  -- where each answer of which something is touched was compared, what is not marked holds in what is
  -- touched
  unmarked_by : (t : Touched) (marks : List Bool)
      → ((e : Reading) (a : Answer) → Contains es e → e.key ≡ a.observation.key → (o : Observation) → Contains (observed a) o → Contains (observed e.answer) o → touches t o.key ≡ true → IsCompared F slots marks e)
      → (j : ℕ) (v : Judgement) → IsAt slots j v → (IsMarked marks j → ⊥) → HoldWhere F t v.observations
  unmarked_by t marks compared j v a n o m y =
      let V = verdicts slots in
      let there = kept_at slots shelved.order j v a in
      let c = Contains-map reader_of V v there in
      let r = Contains-flat_map_from observed v.answers o (subst (λ os. Contains os o) (shelved.order.reads v there).flat m) in
      let f = shelved.reads.answers (reader_of v) r.0 c r.1 in
      let seen = alike_there r.0 f.0.answer (alike_back f.0.answer r.0 f.3) o r.2 in
      elim (compared f.0 r.0 f.1 f.2 o r.2 seen y) [
        | inl h ↦ h o seen
        | inr marked ↦ absurd (n (marked j v a (subst (λ ids. Contains ids (id_of v.def)) (sym (shelved.reads.exact f.0 f.1))
            (reads_has f.0.key (readers V) (reader_of v) c (observes_has f.0.key (reader_of v) r.0 r.1 (sym f.2))))))
      ]

  -- where each key was compared that the edit of a document file touches
  pub unmarked_hold : (edit : FileEdit) (marks : List Bool) → ((e : Reading) → Contains es e → touches (File edit) e.key ≡ true → IsCompared F slots marks e)
      → (j : ℕ) (v : Judgement) → IsAt slots j v → (IsMarked marks j → ⊥) → HoldWhere F (File edit) v.observations
  unmarked_hold edit marks compared = unmarked_by (File edit) marks
      (λ e a c q o m seen y. compared e c (subst (λ k. touches (File edit) k ≡ true) (sym q) (touched_answer edit a o m y)))

  -- where each answer in doubt was compared
  pub unmarked_doubted : (t : Touched) (d : Doubt) → ((k : Key) → in_doubt d k ≡ touches t k) → (marks : List Bool) → ((e : Reading) → Contains es e → IsDoubtCompared F d slots marks e)
      → (j : ℕ) (v : Judgement) → IsAt slots j v → (IsMarked marks j → ⊥) → HoldWhere F t v.observations
  unmarked_doubted t d same marks compared = unmarked_by t marks (λ e a c q o m seen y. compared e c o seen (same o.key ∙ y))

  pub broken_more : (old new : List Bool) (e : Reading) → Contains es e → IsBroken F (observed e.answer) → AreBroken F slots old → length new ≡ length slots → OnlyMarks slots old new e.readers → AreBroken F slots new
  broken_more old new e c bad b long only = record {
    long = long;
    broken = λ j v a m. elim (only j v a m) [
      | inl o ↦ b.broken j v a o
      | inr r ↦ reader_broken e c bad j v a r
    ];
  }

  pub one_compared : (marks : List Bool) (e : Reading) (k : Key) → Contains es e × (e.key ≡ k) → IsCompared F slots marks e → (d : Reading) → Contains es d → d.key ≡ k → IsCompared F slots marks d
  one_compared marks e k at done d c q = subst (λ (x : Reading). IsCompared F slots marks x) (one_entry es shelved.reads.order e d at.0 c (at.1 ∙ sym q)) done

pub keep_compared : (F : Facts) (slots : List Slot) (old new : List Bool) (e : Reading) → KeepMarks old new → IsCompared F slots old e → IsCompared F slots new e
keep_compared F slots old new e kept (inl h) = inl h
keep_compared F slots old new e kept (inr m) = inr (λ j v a c. kept j (m j v a c))

pub keep_doubted : (F : Facts) (d : Doubt) (slots : List Slot) (old new : List Bool) (e : Reading) → KeepMarks old new → IsDoubtCompared F d slots old e → IsDoubtCompared F d slots new e
keep_doubted F d slots old new e kept h o c y = keep_compared F slots old new e kept (h o c y)

-- ---- what the edit of a file touches

find_some : (n : List ℕ) (o : Option (List ℕ)) → is_some o ≡ true → (x : List ℕ) × (o ≡ Some x)
find_some n None e = absurd (let t : false ≡ true = e in cc)
find_some n (Some x) e = (x, refl)

pub touched_fragment : (edit : FileEdit) (k : Key) → touches (File edit) k ≡ true → (n : List ℕ) × (k ≡ key.FragmentOf n) × Contains edit.fragments n
touched_fragment edit (key.FragmentOf n) e =
    let s = find_some n (find (bytes_eq n) edit.fragments) e in
    let f = found_in (bytes_eq n) edit.fragments s.0 s.1 in
    (n, refl, subst (λ x. Contains edit.fragments x) (sym (same_text n s.0 (sym f.1))) f.0)
touched_fragment edit (key.KindOf t) e = absurd (let t : false ≡ true = e in cc)
touched_fragment edit (key.FieldOf t n) e = absurd (let t : false ≡ true = e in cc)
touched_fragment edit (key.PossibleOf t) e = absurd (let t : false ≡ true = e in cc)
touched_fragment edit (key.InputOf t) e = absurd (let t : false ≡ true = e in cc)
touched_fragment edit (key.EnumOf t) e = absurd (let t : false ≡ true = e in cc)
touched_fragment edit (key.DirectiveOf t) e = absurd (let t : false ≡ true = e in cc)
touched_fragment edit (key.RootOf t) e = absurd (let t : false ≡ true = e in cc)
