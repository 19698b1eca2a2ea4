-- Readers that come in place of others: one more, and what that makes of the readers of an index.
use Rattle.std.proofs.Common.{◌≡◌, ◌⊎◌, inl, inr, List, [], ◌∷◌, ◌++◌, refl, ap, sym, subst, ◌∙◌, Contains}
use Rattle.std.proofs.lemmas.List.{map-append}
use Rattle.std.proofs.lemmas.List.Elements.{Contains-append_left, Contains-append_cases, Contains-push}
use Rattle.gql_ast.specs.declared.definition.DefinitionId.{DefinitionId}
use Rattle.gql_facts.specs.ListMembers.{Contains-nil, Contains-cases, Contains-map}
use Rattle.gql_facts.specs.declared.key.Key.{Key}
use Rattle.gql_reads.proofs.Members.{Contains-map_from}
use Rattle.gql_reads.specs.declared.observation.Answer.{Answer}
use Rattle.gql_readers.specs.Changes.{AreNotes, AreNotesBetween, HasAnswer, HasKey, IsDifference, IsNew, Notes}
use Rattle.gql_readers.specs.Readers.{InReadingOrder, Reader, ids_of, keys_in, with_reader}
use Rattle.gql_readers.specs.Replacements.{IsReplacement}
use Rattle.gql_readers.proofs.Reading.{about_id, answer_reads, one_reader, reads_answer}

abbrev reader : DefinitionId → List Answer → Reader
reader id os = record { id = id; answers = os }

-- ---- one reader more

module _ (rs : List Reader) (id : DefinitionId) (os : List Answer) where
  answer_before : (i : DefinitionId) (o : Answer) → HasAnswer rs i o → HasAnswer (with_reader rs id os) i o
  answer_before i o h = (h.0, Contains-append_left rs (reader id os ∷ []) h.0 h.1, h.2, h.3)

  answer_last : (o : Answer) → Contains os o → HasAnswer (with_reader rs id os) id o
  answer_last o c = (reader id os, Contains-push rs (reader id os), refl, c)

  answer_cases : (i : DefinitionId) (o : Answer) → HasAnswer (with_reader rs id os) i o → HasAnswer rs i o ⊎ ((id ≡ i) × Contains os o)
  answer_cases i o h = elim (Contains-append_cases rs (reader id os ∷ []) h.0 h.1) [
    | inl c ↦ inl (h.0, c, h.2, h.3)
    | inr d ↦ elim (Contains-cases h.0 (reader id os) [] d) [
      | inl e ↦ inr (sym (ap (λ (r : Reader). r.id) e) ∙ h.2, subst (λ (r : Reader). Contains r.answers o) e h.3)
      | inr n ↦ absurd (Contains-nil h.0 n)
    ]
  ]

  key_before : (i : DefinitionId) (k : Key) → HasKey rs i k → HasKey (with_reader rs id os) i k
  key_before i k c =
      let a = reads_answer rs i k c in
      subst (λ z. HasKey (with_reader rs id os) i z) a.2 (answer_reads (with_reader rs id os) i a.0 (answer_before i a.0 a.1))

  key_last : (k : Key) → Contains (keys_in os) k → HasKey (with_reader rs id os) id k
  key_last k c =
      let m = Contains-map_from (λ (q : Answer). q.observation.key) os k c in
      subst (λ z. HasKey (with_reader rs id os) id z) m.2 (answer_reads (with_reader rs id os) id m.0 (answer_last m.0 m.1))

  key_cases : (i : DefinitionId) (k : Key) → HasKey (with_reader rs id os) i k → HasKey rs i k ⊎ ((id ≡ i) × Contains (keys_in os) k)
  key_cases i k c =
      let a = reads_answer (with_reader rs id os) i k c in
      elim (answer_cases i a.0 a.1) [
        | inl h ↦ inl (subst (λ z. HasKey rs i z) a.2 (answer_reads rs i a.0 h))
        | inr h ↦ inr (h.0, subst (λ z. Contains (keys_in os) z) a.2 (Contains-map (λ (q : Answer). q.observation.key) os a.0 h.1))
      ]

no_answer : (rs : List Reader) (id i : DefinitionId) (o : Answer) → IsNew id rs → id ≡ i → HasAnswer rs i o → ⊥
no_answer rs id i o new e h = new h.0 h.1 (h.2 ∙ sym e)

no_key : (rs : List Reader) (id i : DefinitionId) (k : Key) → IsNew id rs → id ≡ i → HasKey rs i k → ⊥
no_key rs id i k new e c = let a = reads_answer rs i k c in no_answer rs id i a.0 new e a.1

none_differ : IsDifference [] [] [] []
none_differ = record {
  goes = λ i o h. h;
  comes = λ i o h. h;
  stays = λ i o h n. absurd (Contains-nil h.0 h.1);
  from = λ i o h. absurd (Contains-nil h.0 h.1);
}

module _ (old going coming new : List Reader) (d : IsDifference old going coming new) (id : DefinitionId) where
  -- a definition comes
  came_differ : (os : List Answer) → IsDifference old going (with_reader coming id os) (with_reader new id os)
  came_differ os = record {
    goes = d.goes;
    comes = λ i o h. elim (answer_cases coming id os i o h) [
      | inl a ↦ answer_before new id os i o (d.comes i o a)
      | inr a ↦ subst (λ j. HasAnswer (with_reader new id os) j o) a.0 (answer_last new id os o a.1)
    ];
    stays = λ i o h n. key_before new id os i o.observation.key (d.stays i o h n);
    from = λ i o h. elim (answer_cases new id os i o h) [
      | inl a ↦ elim (d.from i o a) [
        | inl j ↦ inl (key_before coming id os i o.observation.key j)
        | inr s ↦ inr s
      ]
      | inr a ↦ inl (subst (λ j. HasKey (with_reader coming id os) j o.observation.key) a.0
          (answer_reads (with_reader coming id os) id o (answer_last coming id os o a.1)))
    ];
  }

  -- a definition goes
  went_differ : IsNew id old → (os : List Answer) → IsDifference (with_reader old id os) (with_reader going id os) coming new
  went_differ fresh os = record {
    goes = λ i o h. elim (answer_cases going id os i o h) [
      | inl a ↦ answer_before old id os i o (d.goes i o a)
      | inr a ↦ subst (λ j. HasAnswer (with_reader old id os) j o) a.0 (answer_last old id os o a.1)
    ];
    comes = d.comes;
    stays = λ i o h n. elim (answer_cases old id os i o h) [
      | inl a ↦ d.stays i o a (λ m. n (key_before going id os i o.observation.key m))
      | inr a ↦ absurd (n (subst (λ j. HasKey (with_reader going id os) j o.observation.key) a.0
          (answer_reads (with_reader going id os) id o (answer_last going id os o a.1))))
    ];
    from = λ i o h. elim (d.from i o h) [
      | inl j ↦ inl j
      | inr s ↦ inr (
        answer_before old id os i o s.0,
        λ m. elim (key_cases going id os i o.observation.key m) [
          | inl c ↦ s.1 c
          | inr c ↦ no_answer old id i o fresh c.0 s.0
        ],
      )
    ];
  }

  -- answers of a definition come in place of others
  replaced_differ : IsNew id old → IsNew id going → (before went came after : List Answer) → IsReplacement before went came after
      → IsDifference (with_reader old id before) (with_reader going id went) (with_reader coming id came) (with_reader new id after)
  replaced_differ fresh_old fresh_going before went came after r = record {
    goes = λ i o h. elim (answer_cases going id went i o h) [
      | inl a ↦ answer_before old id before i o (d.goes i o a)
      | inr a ↦ subst (λ j. HasAnswer (with_reader old id before) j o) a.0 (answer_last old id before o (r.goes o a.1))
    ];
    comes = λ i o h. elim (answer_cases coming id came i o h) [
      | inl a ↦ answer_before new id after i o (d.comes i o a)
      | inr a ↦ subst (λ j. HasAnswer (with_reader new id after) j o) a.0 (answer_last new id after o (r.comes o a.1))
    ];
    stays = λ i o h n. elim (answer_cases old id before i o h) [
      | inl a ↦ key_before new id after i o.observation.key (d.stays i o a (λ m. n (key_before going id went i o.observation.key m)))
      | inr a ↦ subst (λ j. HasKey (with_reader new id after) j o.observation.key) a.0 (key_last new id after o.observation.key
          (r.stays o a.1 (λ m. n (subst (λ j. HasKey (with_reader going id went) j o.observation.key) a.0 (key_last going id went o.observation.key m)))))
    ];
    from = λ i o h. elim (answer_cases new id after i o h) [
      | inl a ↦ elim (d.from i o a) [
        | inl j ↦ inl (key_before coming id came i o.observation.key j)
        | inr s ↦ inr (
          answer_before old id before i o s.0,
          λ m. elim (key_cases going id went i o.observation.key m) [
            | inl c ↦ s.1 c
            | inr c ↦ no_answer old id i o fresh_old c.0 s.0
          ],
        )
      ]
      | inr a ↦ elim (r.from o a.1) [
        | inl j ↦ inl (subst (λ z. HasKey (with_reader coming id came) z o.observation.key) a.0 (key_last coming id came o.observation.key j))
        | inr s ↦ inr (
          subst (λ z. HasAnswer (with_reader old id before) z o) a.0 (answer_last old id before o s.0),
          λ m. elim (key_cases going id went i o.observation.key m) [
            | inl c ↦ no_key going id i o.observation.key fresh_going a.0 c
            | inr c ↦ s.1 c.1
          ],
        )
      ]
    ];
  }

-- ---- notes between readers

more_ids : (rs : List Reader) (id : DefinitionId) (os : List Answer) → ids_of (with_reader rs id os) ≡ ids_of rs ++ id ∷ []
more_ids rs id os = map-append (λ (r : Reader). r.id) rs (reader id os ∷ [])

same_more : (rs qs : List Reader) (id : DefinitionId) (xs ys : List Answer) → ids_of rs ≡ ids_of qs → ids_of (with_reader rs id xs) ≡ ids_of (with_reader qs id ys)
same_more rs qs id xs ys e = more_ids rs id xs ∙ ap (λ is. is ++ id ∷ []) e ∙ sym (more_ids qs id ys)

-- a definition that is new to readers is new to others on the same definitions
pub same_new : (rs qs : List Reader) (id : DefinitionId) → ids_of rs ≡ ids_of qs → IsNew id qs → IsNew id rs
same_new rs qs id e new r c is =
    let m = Contains-map_from (λ (x : Reader). x.id) qs r.id (subst (λ is. Contains is r.id) e (Contains-map (λ (x : Reader). x.id) rs r c)) in
    new m.0 m.1 (m.2 ∙ is)

pub none_between : (notes : Notes) → AreNotes notes [] [] → AreNotesBetween notes [] []
none_between notes are = record { coming = []; going = []; notes_of = are; coming_ids = refl; going_ids = refl; difference = none_differ }

module _ (notes after : Notes) (old new : List Reader) (b : AreNotesBetween notes old new) (id : DefinitionId) (os : List Answer) where
  pub came_between : IsNew id new → ((coming going : List Reader) → AreNotes notes coming going → IsNew id coming → AreNotes after (with_reader coming id os) going)
      → AreNotesBetween after old (with_reader new id os)
  came_between fresh f = record {
    coming = with_reader b.coming id os;
    going = b.going;
    notes_of = f b.coming b.going b.notes_of (same_new b.coming new id b.coming_ids fresh);
    coming_ids = same_more b.coming new id os os b.coming_ids;
    going_ids = b.going_ids;
    difference = came_differ old b.going b.coming new b.difference id os;
  }

  pub went_between : IsNew id old → ((coming going : List Reader) → AreNotes notes coming going → IsNew id going → AreNotes after coming (with_reader going id os))
      → AreNotesBetween after (with_reader old id os) new
  went_between fresh f = record {
    coming = b.coming;
    going = with_reader b.going id os;
    notes_of = f b.coming b.going b.notes_of (same_new b.going old id b.going_ids fresh);
    coming_ids = b.coming_ids;
    going_ids = same_more b.going old id os os b.going_ids;
    difference = went_differ old b.going b.coming new b.difference id fresh os;
  }

pub replaced_between : (notes after : Notes) (old new : List Reader) → (b : AreNotesBetween notes old new) → (id : DefinitionId) → IsNew id old → IsNew id new
    → (before went came now : List Answer) → IsReplacement before went came now
    → AreNotes after (with_reader b.coming id came) (with_reader b.going id went)
    → AreNotesBetween after (with_reader old id before) (with_reader new id now)
replaced_between notes after old new b id fresh_old fresh_new before went came now r are = record {
  coming = with_reader b.coming id came;
  going = with_reader b.going id went;
  notes_of = are;
  coming_ids = same_more b.coming new id came now b.coming_ids;
  going_ids = same_more b.going old id went before b.going_ids;
  difference = replaced_differ old b.going b.coming new b.difference id fresh_old (same_new b.going old id b.going_ids fresh_old) before went came now r;
}

-- ---- the readers of an index

-- Some of the readers of an index go, others come, and the answers that are noted make these of those:
-- they make the readers afterwards of all that there were.
module _ (old gone come new : List Reader) (order : InReadingOrder old)
    (goes : (r : Reader) → Contains gone r → Contains old r)
    (comes : (r : Reader) → Contains come r → Contains new r)
    (stays : (r : Reader) → Contains old r → ((g : Reader) → Contains gone g → g.id ≡ r.id → ⊥) → Contains new r)
    (from : (r : Reader) → Contains new r → Contains come r ⊎ (Contains old r × ((g : Reader) → Contains gone g → g.id ≡ r.id → ⊥)))
    (going coming : List Reader) (d : IsDifference gone going coming come) where
  was_there : (i : DefinitionId) (o : Answer) → HasAnswer gone i o → HasAnswer old i o
  was_there i o h = (h.0, goes h.0 h.1, h.2, h.3)

  is_there : (i : DefinitionId) (o : Answer) → HasAnswer come i o → HasAnswer new i o
  is_there i o h = (h.0, comes h.0 h.1, h.2, h.3)

  pub whole_differ : IsDifference old going coming new
  whole_differ = record {
    goes = λ i o h. was_there i o (d.goes i o h);
    comes = λ i o h. is_there i o (d.comes i o h);
    stays = λ i o h n. elim (about_id (ids_of gone) i) [
      | inl c ↦
          let g = Contains-map_from (λ (r : Reader). r.id) gone i c in
          let same : g.0 ≡ h.0 = one_reader old order g.0 h.0 (goes g.0 g.1) h.1 (g.2 ∙ sym h.2) in
          let k = d.stays i o (g.0, g.1, g.2, subst (λ (r : Reader). Contains r.answers o) (sym same) h.3) n in
          let a = reads_answer come i o.observation.key k in
          subst (λ z. HasKey new i z) a.2 (answer_reads new i a.0 (is_there i a.0 a.1))
      | inr lacks ↦ answer_reads new i o (
        h.0,
        stays h.0 h.1 (λ g c e. lacks (subst (λ z. Contains (ids_of gone) z) (e ∙ h.2) (Contains-map (λ (r : Reader). r.id) gone g c))),
        h.2,
        h.3,
      )
    ];
    from = λ i o h. elim (from h.0 h.1) [
      | inl c ↦ elim (d.from i o (h.0, c, h.2, h.3)) [
        | inl j ↦ inl j
        | inr s ↦ inr (was_there i o s.0, s.1)
      ]
      | inr s ↦ inr (
        (h.0, s.0, h.2, h.3),
        λ m.
            let a = reads_answer going i o.observation.key m in
            let g = d.goes i a.0 a.1 in
            s.1 g.0 g.1 (g.2 ∙ sym h.2),
      )
    ];
  }
