-- The index after an edit.
use Rattle.std.proofs.Common.{◌≡◌, ◌≢◌, inl, inr, List, [], ◌∷◌, Bool, true, false, cond, Option, Some, None, refl, ap, sym, subst, ◌∙◌, Contains, get_or, arith}
use Rattle.std.specs.BTreeMap.{is_at}
use Rattle.std.specs.List.{AllPairs}
use Rattle.std.specs.List.Sorted.{IsStrictlySortedBy}
use Rattle.std.specs.Map.{keys_of, lookup}
use Rattle.std.specs.Option.{option_map_or}
use Rattle.std.specs.Ordering.{is_eq, ordering_reverse}
use Rattle.std.specs.declared.cmp.Ordering.{Ordering}
use Rattle.std.specs.declared.cmp.Ordering.TheVariants.{Less, Equal, Greater}
use Rattle.std.proofs.lemmas.Cmp.{tied_itself}
use Rattle.std.proofs.lemmas.List.Elements.{All-contains, All-from_recursion, Contains-get_or}
use Rattle.std.proofs.lemmas.List.Kept.{AllPairs-cons}
use Rattle.gql_ast.specs.declared.definition.DefinitionId.{DefinitionId}
use Rattle.gql_facts.specs.ListMembers.{Contains-nil, Contains-here, Contains-there, Contains-cases, Contains-map}
use Rattle.gql_facts.specs.Worlds.{Facts}
use Rattle.gql_reads.specs.declared.observation.Answer.{Answer}
use Rattle.gql_facts.specs.declared.key.Key.{Key}
use Rattle.gql_readers.specs.Changes.{AreNotes, HasAnswer, HasKey, IsEdit, Noted, Notes}
use Rattle.gql_readers.specs.Indexes.{AreAlike, IsIndexOf, Reading}
use Rattle.gql_readers.specs.Merged.{IsUnchanged, changed_key, edited, entry_if, answer_after, answer_by, here, index_after, key_of, made, readers_after, readers_found}
use Rattle.gql_readers.specs.Orders.{AreInOrder, key_order}
use Rattle.gql_readers.specs.Readers.{Reader, readers_of}
use Rattle.gql_readers.proofs.Alike.{alike, answer_held}
use Rattle.gql_readers.proofs.Merging.{about, here_from, here_has, merged_from, merged_keeps, merged_makes, merged_rises, not_less, pairs_head, pairs_none, pairs_one, pairs_tail}
use Rattle.gql_readers.specs.OrderLaws.{key_exact, key_total}
use Rattle.gql_readers.proofs.Reading.{about_id, answer_reads, edited_in_order, edited_readers, none_reads, observes_from, observes_has, reads_answer, reads_has, reads_in_order, same_ids, same_readers, with_from, with_new, with_old, without_from, without_has}

-- ---- what is noted of a key

-- each key is noted once, in order
abbrev pub AreSorted : Notes → Type 0
AreSorted notes = AllPairs (λ (c d : Key × Noted). key_order c.0 d.0 ≡ Less) notes

at_self : (k : Key) → is_at (key_order k) k ≡ true
at_self k = ap is_eq (tied_itself key_total k)

at_later : (j k : Key) → key_order j k ≡ Less → is_at (key_order k) j ≡ false
at_later j k e = ap is_eq (key_total.antisymm k j ∙ ap ordering_reverse e)

pub noted_at : (notes : Notes) → AreSorted notes → (c : Key × Noted) → Contains notes c → lookup (is_at (key_order c.0)) notes ≡ Some c.1
noted_at [] up c m = absurd (Contains-nil c m)
noted_at (d ∷ ds) up c m = elim (Contains-cases c d ds m) [
  | inl e ↦ ap (λ (b : Bool). cond b (Some d.1) (lookup (is_at (key_order c.0)) ds)) (ap (λ (z : Key × Noted). is_at (key_order c.0) z.0) (sym e) ∙ at_self c.0) ∙ ap (λ (z : Key × Noted). Some z.1) (sym e)
  | inr t ↦ ap (λ (b : Bool). cond b (Some d.1) (lookup (is_at (key_order c.0)) ds)) (at_later d.0 c.0 (pairs_head (λ (x y : Key × Noted). key_order x.0 y.0 ≡ Less) d ds up c t))
      ∙ noted_at ds (pairs_tail (λ (x y : Key × Noted). key_order x.0 y.0 ≡ Less) d ds up) c t
]

at_other : (o : Ordering) (j k : Key) → key_order k j ≡ o → (j ≡ k → ⊥) → is_eq o ≡ false
at_other Less j k e n = refl
at_other Equal j k e n = absurd (n (sym (key_exact k j e)))
at_other Greater j k e n = refl

pub not_noted : (notes : Notes) (k : Key) → ((c : Key × Noted) → Contains notes c → c.0 ≡ k → ⊥) → lookup (is_at (key_order k)) notes ≡ None
not_noted [] k n = refl
not_noted (d ∷ ds) k n =
    ap (λ (b : Bool). cond b (Some d.1) (lookup (is_at (key_order k)) ds)) (at_other (key_order k d.0) d.0 k refl (n d (Contains-here d ds)))
    ∙ not_noted ds k (λ c m. n c (Contains-there c d ds m))

-- ---- entries

-- two entries of one key are one
pub one_entry : (es : List Reading) → AllPairs (λ (d e : Reading). key_order d.key e.key ≡ Less) es → (d e : Reading) → Contains es d → Contains es e → d.key ≡ e.key → d ≡ e
one_entry [] up d e m n same = absurd (Contains-nil d m)
one_entry (x ∷ es) up d e m n same =
    let R = λ (a b : Reading). key_order a.key b.key ≡ Less in
    let after : (z : Reading) → Contains es z → x.key ≡ z.key → ⊥ = λ z c q. not_less key_order key_total key_exact x.key z.key (pairs_head R x es up z c) q in
    elim (Contains-cases d x es m) [
      | inl a ↦ elim (Contains-cases e x es n) [
        | inl b ↦ a ∙ sym b
        | inr t ↦ absurd (after e t (sym (ap (λ (z : Reading). z.key) a) ∙ same))
      ]
      | inr t ↦ elim (Contains-cases e x es n) [
        | inl b ↦ absurd (after d t (sym (ap (λ (z : Reading). z.key) b) ∙ sym same))
        | inr u ↦ one_entry es (pairs_tail R x es up) d e t u same
      ]
    ]

entry_from : (k : Key) (f : Answer) (ids : List DefinitionId) (y : Reading) → Contains (entry_if k f ids) y → (y.key ≡ k) × (y.readers ≡ ids)
entry_from k f [] y m = absurd (Contains-nil y m)
entry_from k f (id ∷ ids) y m = elim (Contains-cases y (record { key = k; answer = f; readers = id ∷ ids }) [] m) [
  | inl e ↦ (ap (λ (z : Reading). z.key) e, ap (λ (z : Reading). z.readers) e)
  | inr t ↦ absurd (Contains-nil y t)
]

entry_has : (k : Key) (f : Answer) (ids : List DefinitionId) (id : DefinitionId) → Contains ids id → (y : Reading) × Contains (entry_if k f ids) y × (y.key ≡ k) × (y.answer ≡ f)
entry_has k f [] id m = absurd (Contains-nil id m)
entry_has k f (x ∷ ids) id m = (record { key = k; answer = f; readers = x ∷ ids }, Contains-here _ [], refl, refl)

entry_once : (k : Key) (f : Answer) (ids : List DefinitionId) → AllPairs (λ (x y : Reading). key_order (key_of x) (key_of y) ≡ Less) (entry_if k f ids)
entry_once k f [] = pairs_none (λ (x y : Reading). key_order (key_of x) (key_of y) ≡ Less)
entry_once k f (id ∷ ids) = pairs_one (λ (x y : Reading). key_order (key_of x) (key_of y) ≡ Less) _

-- where there is a reader, there are some
some_reader : (ids : List DefinitionId) (id : DefinitionId) → Contains ids id → ids ≢ []
some_reader ids id m e = Contains-nil id (subst (λ zs. Contains zs id) e m)

no_reader : (ids : List DefinitionId) (id : DefinitionId) → ids ≡ [] → Contains ids id → ⊥
no_reader ids id e m = some_reader ids id m e

-- ---- the index

module _ (F : Facts) (es : List Reading) (notes : Notes) (old going coming new : List Reader)
    (index : IsIndexOf es old) (sorted : AreSorted notes) (are : AreNotes notes coming going) (edit : IsEdit F old going coming new) where
  comes_are : (c : Key × Noted) → Contains notes c → c.1.comes ≡ readers_of c.0 coming
  comes_are c m = sym (ap (λ (o : Option Noted). option_map_or (λ (n : Noted). n.comes) o []) (noted_at notes sorted c m)) ∙ are.comes c.0

  goes_are : (c : Key × Noted) → Contains notes c → c.1.goes ≡ readers_of c.0 going
  goes_are c m = sym (ap (λ (o : Option Noted). option_map_or (λ (n : Noted). n.goes) o []) (noted_at notes sorted c m)) ∙ are.goes c.0

  nobody_comes : (k : Key) → ((c : Key × Noted) → Contains notes c → c.0 ≡ k → ⊥) → readers_of k coming ≡ []
  nobody_comes k n = sym (are.comes k) ∙ ap (λ (o : Option Noted). option_map_or (λ (x : Noted). x.comes) o []) (not_noted notes k n)

  nobody_goes : (k : Key) → ((c : Key × Noted) → Contains notes c → c.0 ≡ k → ⊥) → readers_of k going ≡ []
  nobody_goes k n = sym (are.goes k) ∙ ap (λ (o : Option Noted). option_map_or (λ (x : Noted). x.goes) o []) (not_noted notes k n)

  -- what is found for a key has its readers
  found_readers : (k : Key) (found : List Reading) → ((e : Reading) → Contains found e → Contains es e × (e.key ≡ k)) → ((e : Reading) → Contains es e → e.key ≡ k → Contains found e) → readers_found found ≡ readers_of k old
  found_readers k [] from has = sym (none_reads k old (λ r c o.
      let x = observes_from k r o in
      let e = index.answers r x.0 c x.1 in
      Contains-nil e.0 (has e.0 e.1 (e.2 ∙ x.2))))
  found_readers k (e ∷ rest) from has = let f = from e (Contains-here e rest) in index.exact e f.0 ∙ ap (λ j. readers_of j old) f.1

  here_readers : (k : Key) → readers_found (here key_order key_of k es) ≡ readers_of k old
  here_readers k = found_readers k (here key_order key_of k es) (here_from key_order key_total key_exact key_of k es) (here_has key_order key_total key_exact key_of k es)

  readers_then : (c : Key × Noted) → Contains notes c → readers_after (readers_found (here key_order key_of c.0 es)) c.1 ≡ readers_of c.0 new
  readers_then c m =
      ap (λ ids. readers_after ids c.1) (here_readers c.0)
      ∙ ap (λ ids. edited true (edited false (readers_of c.0 old) ids) c.1.comes) (goes_are c m)
      ∙ ap (λ ids. edited true (edited false (readers_of c.0 old) (readers_of c.0 going)) ids) (comes_are c m)
      ∙ edited_readers F old going coming new edit c.0

  -- ---- answers

  -- what those had who come is what a new reader has
  come_answer : (c : Key × Noted) → Contains notes c → c.1.comes ≢ [] → (r : Reader) (o : Answer) → Contains new r → Contains r.answers o → o.observation.key ≡ c.0 → AreAlike c.1.answer o
  come_answer c m some r o in_new n e =
      let told = are.answers c.0 c.1 (noted_at notes sorted c m) some in
      let there = edit.difference.comes told.0.id told.1 (told.0, told.2, refl, told.3) in
      subst (λ a. AreAlike a o) told.5
      (alike F told.1 o (told.4 ∙ sym e) (answer_held F there.0.answers told.1 (edit.holds there.0 there.1) there.3) (answer_held F r.answers o (edit.holds r in_new) n)
      (edit.led there.0 there.1 told.1 there.3) (edit.led r in_new o n))

  -- an answer to a key that nobody comes to was there before
  was_old : (k : Key) → readers_of k coming ≡ [] → (r : Reader) (o : Answer) → Contains new r → Contains r.answers o → o.observation.key ≡ k → HasAnswer old r.id o
  was_old k none r o m n e = elim (edit.difference.from r.id o (r, m, refl, n)) [
    | inl j ↦ absurd (no_reader (readers_of k coming) r.id none (subst (λ z. HasKey coming r.id z) e j))
    | inr s ↦ s.0
  ]

  answer_comes : (comes : List DefinitionId) (come kept : Answer) (o : Answer) → (comes ≢ [] → AreAlike come o) → (comes ≡ [] → AreAlike kept o) → AreAlike (answer_by comes come kept) o
  answer_comes [] come kept o some none = none refl
  answer_comes (id ∷ ids) come kept o some none = some (λ e. let t : id ∷ ids ≡ [] = e in cc t)

  answer_found : (c : Key × Noted) → Contains notes c → (r : Reader) (o : Answer) → Contains new r → Contains r.answers o → o.observation.key ≡ c.0
      → (found : List Reading) → ((e : Reading) → Contains found e → Contains es e × (e.key ≡ c.0)) → ((e : Reading) → Contains es e → e.key ≡ c.0 → Contains found e) → AreAlike (answer_after found c.1) o
  answer_found c m r o in_new n e [] from has = come_answer c m (λ none.
      let kept = was_old c.0 (sym (comes_are c m) ∙ none) r o in_new n e in
      let f = index.answers kept.0 o kept.1 kept.3 in
      Contains-nil f.0 (has f.0 f.1 (f.2 ∙ e))) r o in_new n e
  answer_found c m r o in_new n e (d ∷ rest) from has = answer_comes c.1.comes c.1.answer d.answer o (λ some. come_answer c m some r o in_new n e)
      (λ none.
      let kept = was_old c.0 (sym (comes_are c m) ∙ none) r o in_new n e in
      let f = index.answers kept.0 o kept.1 kept.3 in
      let g = from d (Contains-here d rest) in
      let same : d ≡ f.0 = one_entry es index.order d f.0 g.0 f.1 (g.1 ∙ sym (f.2 ∙ e)) in
      subst (λ (z : Reading). AreAlike z.answer o) (sym same) f.3)

  pub index_then : IsIndexOf (index_after es notes) new
  index_then = record {
    order = merged_rises key_order key_total key_exact key_of changed_key made es notes sorted index.order
        (λ ys c. record {
          place = λ y m. (entry_from c.0 (answer_after ys c.1) (readers_after (readers_found ys) c.1) y m).0;
          once = entry_once c.0 (answer_after ys c.1) (readers_after (readers_found ys) c.1);
        });
    exact = λ e m. elim (merged_from key_order key_total key_exact key_of changed_key made es notes sorted e m) [
      | inl o ↦ index.exact e o.0 ∙ same_readers F old going coming new edit e.key (nobody_comes e.key (λ c h q. o.1 c h (sym q))) (nobody_goes e.key (λ c h q. o.1 c h (sym q)))
      | inr o ↦
          let f = entry_from o.0.0 (answer_after (here key_order key_of o.0.0 es) o.0.1) (readers_after (readers_found (here key_order key_of o.0.0 es)) o.0.1) e o.2 in
          f.1 ∙ readers_then o.0 o.1 ∙ ap (λ k. readers_of k new) (sym f.0)
    ];
    answers = λ r o m n. elim (about key_order key_total key_exact changed_key notes o.observation.key) [
      | inl c ↦
          let found = here key_order key_of c.0.0 es in
          let ids = readers_after (readers_found found) c.0.1 in
          let there : Contains ids r.id = subst (λ zs. Contains zs r.id) (sym (readers_then c.0 c.1)) (reads_has c.0.0 new r m (observes_has c.0.0 r o n (sym c.2))) in
          let y = entry_has c.0.0 (answer_after found c.0.1) ids r.id there in (
            y.0,
            merged_makes key_order key_total key_exact key_of changed_key made es notes sorted c.0 y.0 c.1 y.1,
            y.2 ∙ c.2,
            subst (λ a. AreAlike a o) (sym y.3) (answer_found c.0 c.1 r o m n (sym c.2) found (here_from key_order key_total key_exact key_of c.0.0 es) (here_has key_order key_total key_exact key_of c.0.0 es)),
          )
      | inr lacks ↦
          let kept = was_old o.observation.key (nobody_comes o.observation.key lacks) r o m n refl in
          let f = index.answers kept.0 o kept.1 kept.3 in
          (f.0, merged_keeps key_order key_total key_exact key_of changed_key made es notes f.0 f.1 (λ c h q. lacks c h (sym q ∙ f.2)), f.2, f.3)
    ];
  }

  -- what goes from a key, and who read it, are in order
  pub goes_in_order : (c : Key × Noted) → Contains notes c → AreInOrder c.1.goes
  goes_in_order c m = subst (λ ids. AreInOrder ids) (sym (goes_are c m)) (reads_in_order c.0 going edit.going_order)

  pub found_in_order : (found : List Reading) → ((e : Reading) → Contains found e → Contains es e) → AreInOrder (readers_found found)
  found_in_order [] from = λ i j d lt within. absurd (omega (arith, lt, within))
  found_in_order (e ∷ rest) from = subst (λ ids. AreInOrder ids) (sym (index.exact e (from e (Contains-here e rest)))) (reads_in_order e.key old edit.old_order)

  -- who goes from a key has read it
  pub goes_among : (c : Key × Noted) → Contains notes c → (id : DefinitionId) → Contains c.1.goes id → Contains (readers_found (here key_order key_of c.0 es)) id
  goes_among c m id h =
      let g = reads_answer going id c.0 (subst (λ ids. Contains ids id) (goes_are c m) h) in
      subst (λ ids. Contains ids id) (sym (here_readers c.0)) (subst (λ z. HasKey old id z) g.2 (answer_reads old id g.0 (edit.difference.goes id g.0 g.1)))

-- ---- an entry that a change leaves as it is

edited_same : (ids cs : List DefinitionId) → AreInOrder ids → AreInOrder cs → ((id : DefinitionId) → Contains cs id → Contains ids id) → edited true (edited false ids cs) cs ≡ ids
edited_same ids cs up vp among =
    let rest = edited false ids cs in
    same_ids (edited true rest cs) ids (edited_in_order rest cs vp true (edited_in_order ids cs vp false up)) up
    (λ z c. elim (with_from rest cs vp z c) [ inl o ↦ (without_from ids cs vp z o).0 | inr n ↦ among z n ])
    (λ z c. elim (about_id cs z) [
      | inl n ↦ with_new rest cs vp z n
      | inr n ↦ with_old rest cs vp z (without_has ids cs vp z c n) n
    ])

abbrev entry_of : Key → Answer → List DefinitionId → Reading
entry_of k f ids = record { key = k; answer = f; readers = ids }

entry_is : (e : Reading) (k : Key) (f : Answer) (ids : List DefinitionId) → e.key ≡ k → e.answer ≡ f → e.readers ≡ ids → ids ≢ [] → e ∷ [] ≡ entry_if k f ids
entry_is e k f [] a b c n = absurd (n refl)
entry_is e k f (x ∷ ids) a b c n = ap (λ j. entry_of j e.answer e.readers ∷ []) a ∙ ap (λ g. entry_of k g e.readers ∷ []) b ∙ ap (λ zs. entry_of k f zs ∷ []) c

answer_stays : (comes : List DefinitionId) (come kept : Answer) → kept ≡ come → kept ≡ answer_by comes come kept
answer_stays [] come kept e = refl
answer_stays (id ∷ ids) come kept e = e

pub unchanged_made : (found : List Reading) (c : Key × Noted) → IsUnchanged found c.1 → AreInOrder (readers_found found) → AreInOrder c.1.goes → ((id : DefinitionId) → Contains c.1.goes id → Contains (readers_found found) id)
    → ((e : Reading) → Contains found e → e.key ≡ c.0) → found ≡ made found c
unchanged_made found c u up vp among named =
    let e = u.entry in
    let readers : readers_found found ≡ e.readers = ap readers_found u.one in
    let after : readers_after (readers_found found) c.1 ≡ readers_found found = ap (λ cs. edited true (edited false (readers_found found) c.1.goes) cs) u.same ∙ edited_same (readers_found found) c.1.goes up vp among in
    let key : e.key ≡ c.0 = named e (subst (λ (zs : List Reading). Contains zs e) (sym u.one) (Contains-here e [])) in
    let answer : e.answer ≡ answer_after found c.1 = answer_stays c.1.comes c.1.answer e.answer u.answer ∙ sym (ap (λ (zs : List Reading). answer_after zs c.1) u.one) in
    let some : readers_after (readers_found found) c.1 ≢ [] = λ none. not_none c.1.comes u.some (λ id h. Contains-nil id (subst (λ ids. Contains ids id) (sym after ∙ none) (among id (subst (λ ids. Contains ids id) u.same h)))) in
    u.one ∙ entry_is e c.0 (answer_after found c.1) (readers_after (readers_found found) c.1) key answer (sym readers ∙ sym after) some
  where
    not_none : (ids : List DefinitionId) → ids ≢ [] → ((id : DefinitionId) → Contains ids id → ⊥) → ⊥
    not_none [] n lacks = n refl
    not_none (id ∷ ids) n lacks = lacks id (Contains-here id ids)

-- keys that rise in a map are noted in order
pub sorted_notes : (notes : Notes) → IsStrictlySortedBy key_order (keys_of notes) → AreSorted notes
unfolding IsStrictlySortedBy
sorted_notes [] up = pairs_none (λ (c d : Key × Noted). key_order c.0 d.0 ≡ Less)
sorted_notes (c ∷ cs) up = AllPairs-cons (λ (a b : Key × Noted). key_order a.0 b.0 ≡ Less) c cs
    (λ i d l. All-contains (λ k. key_order c.0 k ≡ Less) (keys_of cs) (get_or cs i d).0 (All-from_recursion (λ k. key_order c.0 k ≡ Less) (keys_of cs) up.0) (Contains-map (λ (x : Key × Noted). x.0) cs (get_or cs i d) (Contains-get_or cs i d l)))
    (sorted_notes cs up.1)
