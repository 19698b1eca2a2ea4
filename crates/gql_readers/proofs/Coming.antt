-- One observation more of the reader that came last, or of the one that went last.
use Rattle.std.proofs.Common.{flat_map, ◌≡◌, inl, inr, List, [], ◌∷◌, ◌++◌, ◌+◌, ◌<◌, ℕ, ap, append-nil, append_assoc, get_or, length, refl, sym, subst, take, ◌∙◌, Contains}
use Rattle.std.proofs.lemmas.List.{take_more}
use Rattle.std.proofs.lemmas.List.Elements.{Contains-append_left, Contains-append_right, Contains-append_cases, Contains-push}
use Rattle.gql_ast.specs.declared.definition.DefinitionId.{DefinitionId}
use Rattle.gql_facts.specs.ListMembers.{Contains-nil, Contains-here, Contains-cases}
use Rattle.gql_reads.specs.declared.observation.Answer.{Answer}
use Rattle.gql_facts.specs.declared.key.Key.{Key}
use Rattle.gql_reads.specs.Records.{Kept}
use Rattle.gql_readers.specs.Changes.{AreNotes, IsNew, Noted, Notes, WasTold, noted_of}
use Rattle.gql_readers.specs.Merged.{NotesAt, come_noted, go_noted, noted_or}
use Rattle.gql_readers.specs.Readers.{Reader, readers_of, with_reader}
use Rattle.gql_readers.proofs.Noting.{fresh_of, list_more, list_stays, one_more, told_all, told_gone, told_step}

abbrev reader : DefinitionId → List Answer → Reader
reader id os = record { id = id; answers = os }

-- a reader that has observed more was told what it was told
told_wider : (others : List Reader) (id : DefinitionId) (os : List Answer) (o : Answer) (k : Key) (f : Answer)
    → WasTold (with_reader others id os) k f → WasTold (with_reader others id (os ++ o ∷ [])) k f
told_wider others id os o k f t = elim (Contains-append_cases others (reader id os ∷ []) t.0 t.2) [
  | inl a ↦ (t.0, t.1, Contains-append_left others (reader id (os ++ o ∷ []) ∷ []) t.0 a, t.3, t.4, t.5)
  | inr b ↦ elim (Contains-cases t.0 (reader id os) [] b) [
    | inl e ↦
        let m : Contains os t.1 = subst (λ (r : Reader). Contains r.answers t.1) e t.3 in (
          reader id (os ++ o ∷ []),
          t.1,
          Contains-append_right others (reader id (os ++ o ∷ []) ∷ []) (reader id (os ++ o ∷ [])) (Contains-here (reader id (os ++ o ∷ [])) []),
          Contains-append_left os (o ∷ []) t.1 m,
          t.4,
          t.5,
        )
    | inr n ↦ absurd (Contains-nil t.0 n)
  ]
]

module _ (id : DefinitionId) (others : List Reader) where
  -- a reader that has observed nothing
  pub come_none : (notes : Notes) (going : List Reader) → AreNotes notes others going → AreNotes notes (with_reader others id []) going
  come_none notes going are = record {
    comes = λ k. are.comes k ∙ sym (one_more k others (reader id []) ∙ append-nil (readers_of k others));
    goes = are.goes;
    answers = told_all notes others (reader id []) are.answers;
  }

  pub go_none : (notes : Notes) (coming : List Reader) → AreNotes notes coming others → AreNotes notes coming (with_reader others id [])
  go_none notes coming are = record {
    comes = are.comes;
    goes = λ k. are.goes k ∙ sym (one_more k others (reader id []) ∙ append-nil (readers_of k others));
    answers = are.answers;
  }

  -- one observation more
  module _ (fresh : IsNew id others) (old new : Notes) (os : List Answer) (o : Answer) where
    abbrev more : Reader
    more = reader id (os ++ o ∷ [])

    pub come_one : (going : List Reader) → NotesAt old new o.observation.key (come_noted (noted_or o (noted_of old o.observation.key)) o id)
        → AreNotes old (with_reader others id os) going → AreNotes new (with_reader others id (os ++ o ∷ [])) going
    come_one going at are =
        let n = come_noted (noted_or o (noted_of old o.observation.key)) o id in
        record {
          comes = λ k. list_more (λ (m : Noted). m.comes) (λ x. refl) old new (λ j. readers_of j others) id (fresh_of others id fresh) os o
              (λ j. are.comes j ∙ one_more j others (reader id os)) n at refl k ∙ sym (one_more k others more);
          goes = λ k. list_stays (λ (m : Noted). m.goes) (λ x. refl) old new o.observation.key o n at refl k ∙ are.goes k;
          answers = told_step old new (with_reader others id (os ++ o ∷ [])) more o id (Contains-append_right others (more ∷ []) more (Contains-here more []))
              (Contains-push os o) at (λ k m e some. told_wider others id os o k m.answer (are.answers k m e some));
        }

    pub go_one : (coming : List Reader) → NotesAt old new o.observation.key (go_noted (noted_or o (noted_of old o.observation.key)) id)
        → AreNotes old coming (with_reader others id os) → AreNotes new coming (with_reader others id (os ++ o ∷ []))
    go_one coming at are =
        let n = go_noted (noted_or o (noted_of old o.observation.key)) id in
        record {
          comes = λ k. list_stays (λ (m : Noted). m.comes) (λ x. refl) old new o.observation.key o n at refl k ∙ are.comes k;
          goes = λ k. list_more (λ (m : Noted). m.goes) (λ x. refl) old new (λ j. readers_of j others) id (fresh_of others id fresh) os o
              (λ j. are.goes j ∙ one_more j others (reader id os)) n at refl k ∙ sym (one_more k others more);
          answers = told_gone old new coming o id at are.answers;
        }

-- ---- how far a loop is

-- one observation more, after those before
pub more_seen : (before os : List Answer) (i : ℕ) (o : Answer) → i < length os → o ≡ get_or os i o
    → (before ++ take i os) ++ o ∷ [] ≡ before ++ take (i + 1) os
more_seen before os i o lt is =
    append_assoc before (take i os) (o ∷ []) ∙ ap (λ l. before ++ l) (sym (take_more os i o lt ∙ ap (λ y. take i os ++ y ∷ []) (sym is)))

-- the answers of these parts
abbrev pub answers_of : List Kept → List Answer
answers_of ps = flat_map (λ (p : Kept). p.seen) ps

seen_append : (a b : List Kept) → answers_of (a ++ b) ≡ answers_of a ++ answers_of b
seen_append [] b = refl
seen_append (p ∷ a) b = ap (λ l. p.seen ++ l) (seen_append a b) ∙ sym (append_assoc p.seen (answers_of a) (answers_of b))

-- one part more
pub more_parts : (own : List Answer) (ps : List Kept) (i : ℕ) (p : Kept) → i < length ps → p ≡ get_or ps i p
    → (own ++ answers_of (take i ps)) ++ p.seen ≡ own ++ answers_of (take (i + 1) ps)
more_parts own ps i p lt is =
    append_assoc own (answers_of (take i ps)) p.seen
    ∙ ap (λ l. own ++ l) (sym (ap answers_of (take_more ps i p lt ∙ ap (λ y. take i ps ++ y ∷ []) (sym is))
    ∙ seen_append (take i ps) (p ∷ []) ∙ ap (λ l. answers_of (take i ps) ++ l) (append-nil p.seen)))
