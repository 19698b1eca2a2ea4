-- Which verdicts observe a key, by the index.
use Rattle.std.proofs.Common.{◌≡◌, ◌≢◌, ◌⊎◌, inl, inr, ℕ, List, [], ◌∷◌, true, refl, sym, subst, ◌∙◌, Contains}
use Rattle.gql_ast.specs.Trees.{id_of}
use Rattle.gql_ast.specs.declared.definition.DefinitionId.{DefinitionId}
use Rattle.gql_facts.specs.ListMembers.{Contains-nil, Contains-here, Contains-cases, Contains-map, Contains-flat_map}
use Rattle.gql_facts.specs.Reads.{type_reads}
use Rattle.gql_facts.specs.declared.key.Key.{Key}
use Rattle.gql_reads.proofs.Members.{Contains-map_from}
use Rattle.gql_reads.proofs.ObservedKeys.{about_each, observed_answer, observed_type}
use Rattle.gql_reads.specs.Leading.{IsLed}
use Rattle.gql_reads.specs.Observations.{about_all, keys_of, observed, observed_in}
use Rattle.gql_reads.specs.declared.observation.Answer.{Answer}
use Rattle.gql_reads.specs.declared.observation.Observation.{Observation}
use Rattle.gql_readers.proofs.Alike.{alike_back, alike_led, alike_there}
use Rattle.gql_readers.proofs.Editing.{one_entry}
use Rattle.gql_readers.proofs.Reading.{observes_from, observes_has, reads_from, reads_has}
use Rattle.gql_readers.specs.Indexes.{AreAlike, Reading}
use Rattle.gql_readers.specs.Readers.{Reader, observes}
use Rattle.gql_verdict.specs.Marks.{IsShelved, IsSomeAsked, is_about_type}
use Rattle.gql_verdict.specs.Readings.{reader_of, readers}
use Rattle.gql_verdict.specs.Slots.{verdicts}
use Rattle.gql_verdict.specs.Verdicts.{Judgement}
use Rattle.gql_verdict.specs.declared.slot.Slot.{Slot}

-- a list that is not empty has a member
some_member : (ids : List DefinitionId) → ids ≢ [] → (id : DefinitionId) × Contains ids id
some_member [] n = absurd (n refl)
some_member (id ∷ ids) n = (id, Contains-here id ids)

-- the keys about types are about types
about_type : (n : List ℕ) (k : Key) → Contains (type_reads n) k → is_about_type k ≡ true
about_type n k c = about_each n (λ j. is_about_type j ≡ true) refl refl refl refl k c

-- a key that was observed by one of two answers that are alike
pub key_there : (a b : Answer) → AreAlike a b → (k : Key) → Contains (keys_of (observed a)) k → Contains (keys_of (observed b)) k
key_there a b same k c =
    let m = Contains-map_from (λ (o : Observation). o.key) (observed a) k c in
    subst (Contains (keys_of (observed b))) m.2 (Contains-map (λ (o : Observation). o.key) (observed b) m.0 (alike_there a b same m.0 m.1))

module _ (slots : List Slot) (es : List Reading) (shelved : IsShelved slots es) (k : Key) where
  -- an entry that has readers has an answer like one of theirs
  reader_answer : (e : Reading) → Contains es e → e.readers ≢ [] → (v : Judgement) × (o : Answer) × Contains (verdicts slots) v × Contains v.answers o × AreAlike e.answer o
  reader_answer e c some =
      let V = verdicts slots in
      let i = some_member e.readers some in
      let r = reads_from e.key (readers V) i.0 (subst (λ ids. Contains ids i.0) (shelved.reads.exact e c) i.1) in
      let w = Contains-map_from reader_of V r.0 r.1 in
      let reads : observes e.key (reader_of w.0) ≡ true = subst (λ (x : Reader). observes e.key x ≡ true) (sym w.2) r.3 in
      let o = observes_from e.key (reader_of w.0) reads in
      let f = shelved.reads.answers (reader_of w.0) o.0 (Contains-map reader_of V w.0 w.1) o.1 in
      let one : f.0 ≡ e = one_entry es shelved.reads.order f.0 e f.1 c (f.2 ∙ o.2) in
      (w.0, o.0, w.1, o.1, subst (λ (x : Reading). AreAlike x.answer o.0) one f.3)

  -- so it has exactly the types that it leads to
  pub asked_led : (e : Reading) → Contains es e → e.readers ≢ [] → IsLed e.answer
  asked_led e c some = let r = reader_answer e c some in alike_led e.answer r.1 r.4 ((shelved.order.reads r.0 r.2).led r.1 r.3)

  -- an entry that has readers
  pub asked_read : (e : Reading) → Contains es e → IsSomeAsked e k → (v : Judgement) × Contains (verdicts slots) v × Contains (keys_of v.observations) k
  asked_read e c asked =
      let r = reader_answer e c asked.0 in
      let m = Contains-map_from (λ (x : Observation). x.key) (observed r.1) k (key_there e.answer r.1 r.4 k asked.1) in
      let seen : Contains (observed_in r.0.answers) m.0 = Contains-flat_map observed r.0.answers r.1 m.0 r.3 m.1 in
      let there : Contains r.0.observations m.0 = subst (λ os. Contains os m.0) (sym (shelved.order.reads r.0 r.2).flat) seen in
      (r.0, r.2, subst (Contains (keys_of r.0.observations)) m.2 (Contains-map (λ (x : Observation). x.key) r.0.observations m.0 there))

  -- a verdict that observes the key
  pub read_asked : (v : Judgement) → Contains (verdicts slots) v → Contains (keys_of v.observations) k
      → (e : Reading) × Contains es e × IsSomeAsked e k × ((is_about_type k ≡ true) ⊎ (e.key ≡ k))
  read_asked v c h =
      let V = verdicts slots in
      let a = observed_answer v.answers k (subst (λ os. Contains (keys_of os) k) (shelved.order.reads v c).flat h) in
      let f = shelved.reads.answers (reader_of v) a.0 (Contains-map reader_of V v c) a.1 in
      let id : Contains f.0.readers (id_of v.def) = subst (λ ids. Contains ids (id_of v.def)) (sym (shelved.reads.exact f.0 f.1))
      (reads_has f.0.key (readers V) (reader_of v) (Contains-map reader_of V v c) (observes_has f.0.key (reader_of v) a.0 a.1 (sym f.2))) in (
        f.0,
        f.1,
        (
          λ none. Contains-nil (id_of v.def) (subst (λ ids. Contains ids (id_of v.def)) none id),
          key_there a.0 f.0.answer (alike_back f.0.answer a.0 f.3) k a.2,
        ),
        elim (Contains-cases k a.0.observation.key (keys_of (about_all a.0.types)) a.2) [
          | inl e ↦ inr (f.2 ∙ sym e)
          | inr t ↦ let m = observed_type a.0.types k t in inl (about_type m.0.name k m.2)
        ],
      )
