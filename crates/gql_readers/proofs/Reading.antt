-- The readers of a key, before and after an edit.
use Rattle.std.proofs.Common.{◌≡◌, ◌⊎◌, ◌||◌, inl, inr, List, [], ◌∷◌, Bool, true, false, filter, map, get_or, refl, ap, sym, subst, ◌∙◌, Contains}
use Rattle.std.specs.List.{AllPairs, list_any}
use Rattle.std.specs.declared.cmp.Ordering.TheVariants.{Less}
use Rattle.std.proofs.lemmas.List.Kept.{AllPairs-cons, AllPairs-filter}
use Rattle.std.proofs.lemmas.List.Elements.{Contains-get_or}
use Rattle.gql_ast.specs.declared.definition.DefinitionId.{DefinitionId}
use Rattle.gql_facts.specs.Keys.{is_key, is_key_decides}
use Rattle.gql_facts.specs.ListMembers.{Contains-nil, Contains-here, Contains-there, Contains-cases, Contains-map, either}
use Rattle.gql_facts.specs.Worlds.{Facts}
use Rattle.gql_facts.specs.declared.key.Key.{Key}
use Rattle.gql_reads.specs.Observations.{keys_of}
use Rattle.gql_reads.specs.declared.observation.Answer.{Answer}
use Rattle.gql_reads.specs.declared.observation.Observation.{Observation}
use Rattle.gql_readers.specs.Changes.{HasAnswer, HasKey, IsEdit}
use Rattle.gql_readers.specs.Merged.{edited, itself, one_if}
use Rattle.gql_readers.specs.Orders.{AreInOrder, id_order}
use Rattle.gql_readers.specs.Readers.{InReadingOrder, Reader, observes, readers_of}
use Rattle.gql_readers.proofs.Merging.{about, filter_from, filter_has, merged_from, merged_keeps, merged_makes, merged_rises, not_less, not_self, pairs_head, pairs_none, pairs_one, pairs_tail, same_in_order}
use Rattle.gql_readers.specs.OrderLaws.{id_exact, id_total}

-- ---- tests of lists

or_cases : (a b : Bool) → a || b ≡ true → (a ≡ true) ⊎ (b ≡ true)
or_cases true b e = inl refl
or_cases false b e = inr e

or_left : (a b : Bool) → a ≡ true → a || b ≡ true
or_left a b e = ap (λ c. c || b) e

or_right : (a b : Bool) → b ≡ true → a || b ≡ true
or_right true b e = refl
or_right false b e = e

pub any_from : {A : Type 0} (p : A → Bool) (xs : List A) → list_any p xs ≡ true → (x : A) × Contains xs x × (p x ≡ true)
any_from p [] e = absurd (let x : false ≡ true = e in cc)
any_from p (x ∷ xs) e = elim (or_cases (p x) (list_any p xs) e) [
  | inl h ↦ (x, Contains-here x xs, h)
  | inr t ↦ let r = any_from p xs t in (r.0, Contains-there r.0 x xs r.1, r.2)
]

pub any_has : {A : Type 0} (p : A → Bool) (xs : List A) (x : A) → Contains xs x → p x ≡ true → list_any p xs ≡ true
any_has p [] x c e = absurd (Contains-nil x c)
any_has p (y ∷ ys) x c e = elim (Contains-cases x y ys c) [
  | inl s ↦ or_left (p y) (list_any p ys) (subst (λ z. p z ≡ true) s e)
  | inr t ↦ or_right (p y) (list_any p ys) (any_has p ys x t e)
]

Contains-map_from : {A B : Type 0} (f : A → B) (xs : List A) (y : B) → Contains (map f xs) y → (x : A) × Contains xs x × (f x ≡ y)
Contains-map_from f [] y h = absurd (Contains-nil y h)
Contains-map_from f (x ∷ xs) y h = elim (Contains-cases y (f x) (map f xs) h) [
  | inl e ↦ (x, Contains-here x xs, sym e)
  | inr t ↦ let r = Contains-map_from f xs y t in (r.0, Contains-there r.0 x xs r.1, r.2)
]

-- ---- who reads a key

-- a reader of a key, by its observation
pub reads_from : (k : Key) (rs : List Reader) (id : DefinitionId) → Contains (readers_of k rs) id → (r : Reader) × Contains rs r × (r.id ≡ id) × (observes k r ≡ true)
reads_from k rs id c =
    let m = Contains-map_from (λ (r : Reader). r.id) (filter (observes k) rs) id c in
    let f = filter_from (observes k) rs m.0 m.1 in
    (m.0, f.0, m.2, f.1)

pub reads_has : (k : Key) (rs : List Reader) (r : Reader) → Contains rs r → observes k r ≡ true → Contains (readers_of k rs) r.id
reads_has k rs r c e = Contains-map (λ (x : Reader). x.id) (filter (observes k) rs) r (filter_has (observes k) rs r e c)

pub observes_from : (k : Key) (r : Reader) → observes k r ≡ true → (o : Answer) × Contains r.answers o × (o.observation.key ≡ k)
observes_from k r e = let a = any_from (λ (o : Answer). is_key o.observation.key k) r.answers e in (a.0, a.1, (is_key_decides a.0.observation.key k).0 a.2)

pub observes_has : (k : Key) (r : Reader) (o : Answer) → Contains r.answers o → o.observation.key ≡ k → observes k r ≡ true
observes_has k r o c e = any_has (λ (p : Answer). is_key p.observation.key k) r.answers o c ((is_key_decides o.observation.key k).1 e)

pub none_reads : (k : Key) (rs : List Reader) → ((r : Reader) → Contains rs r → observes k r ≡ true → ⊥) → readers_of k rs ≡ []
none_reads k rs lacks = none (readers_of k rs) (λ id c. let r = reads_from k rs id c in lacks r.0 r.1 r.3) where
  none : (ids : List DefinitionId) → ((id : DefinitionId) → Contains ids id → ⊥) → ids ≡ []
  none [] h = refl
  none (id ∷ ids) h = absurd (h id (Contains-here id ids))

-- ---- order

pub pairs_map_from : {A B : Type 0} (R : B → B → Type 0) (f : A → B) (xs : List A) → AllPairs R (map f xs) → AllPairs (λ x y. R (f x) (f y)) xs
pairs_map_from R f [] all = pairs_none (λ x y. R (f x) (f y))
pairs_map_from R f (x ∷ xs) all = AllPairs-cons (λ y z. R (f y) (f z)) x xs (λ i d l. pairs_head R (f x) (map f xs) all (f (get_or xs i d)) (Contains-map f xs (get_or xs i d) (Contains-get_or xs i d l)))
    (pairs_map_from R f xs (pairs_tail R (f x) (map f xs) all))

pub pairs_map_to : {A B : Type 0} (R : B → B → Type 0) (f : A → B) (xs : List A) → AllPairs (λ x y. R (f x) (f y)) xs → AllPairs R (map f xs)
pairs_map_to R f [] all = pairs_none R
pairs_map_to R f (x ∷ xs) all = AllPairs-cons R (f x) (map f xs)
    (λ i d l. let m = Contains-map_from f xs (get_or (map f xs) i d) (Contains-get_or (map f xs) i d l) in subst (λ z. R (f x) z) m.2 (pairs_head (λ y z. R (f y) (f z)) x xs all m.0 m.1))
    (pairs_map_to R f xs (pairs_tail (λ y z. R (f y) (f z)) x xs all))

abbrev Before : DefinitionId → DefinitionId → Type 0
Before a b = id_order a b ≡ Less

pub reads_in_order : (k : Key) (rs : List Reader) → InReadingOrder rs → AreInOrder (readers_of k rs)
reads_in_order k rs up = pairs_map_to Before (λ (r : Reader). r.id) (filter (observes k) rs)
    (AllPairs-filter (λ (r s : Reader). Before r.id s.id) (observes k) rs (pairs_map_from Before (λ (r : Reader). r.id) rs up))

-- two readers in order, on one definition, are one
pub one_reader : (rs : List Reader) → InReadingOrder rs → (r s : Reader) → Contains rs r → Contains rs s → r.id ≡ s.id → r ≡ s
one_reader [] up r s c d e = absurd (Contains-nil r c)
one_reader (x ∷ rs) up r s c d e =
    let all = pairs_map_from Before (λ (z : Reader). z.id) (x ∷ rs) up in
    let after : (z : Reader) → Contains rs z → x.id ≡ z.id → ⊥ = λ z m q. not_less id_order id_total id_exact x.id z.id (pairs_head (λ (y w : Reader). Before y.id w.id) x rs all z m) q in
    elim (Contains-cases r x rs c) [
      | inl a ↦ elim (Contains-cases s x rs d) [
        | inl b ↦ a ∙ sym b
        | inr t ↦ absurd (after s t (sym (ap (λ (z : Reader). z.id) a) ∙ e))
      ]
      | inr t ↦ elim (Contains-cases s x rs d) [
        | inl b ↦ absurd (after r t (sym (ap (λ (z : Reader). z.id) b) ∙ sym e))
        | inr u ↦ one_reader rs (pairs_tail Before x.id (map (λ (z : Reader). z.id) rs) up) r s t u e
      ]
    ]

-- ---- lists of definitions, edited

pub same_ids : (xs ys : List DefinitionId) → AreInOrder xs → AreInOrder ys → ((z : DefinitionId) → Contains xs z → Contains ys z) → ((z : DefinitionId) → Contains ys z → Contains xs z) → xs ≡ ys
same_ids = same_in_order Before id_total.trans (not_self id_order id_total id_exact)

-- a definition is in a list, or it is not
pub about_id : (cs : List DefinitionId) (y : DefinitionId) → Contains cs y ⊎ (Contains cs y → ⊥)
about_id cs y = elim (about id_order id_total id_exact itself cs y) [
  | inl c ↦ inl (subst (λ z. Contains cs z) c.2 c.1)
  | inr n ↦ inr (λ m. n y m refl)
]

module _ (xs cs : List DefinitionId) (up : AreInOrder cs) where
  pub without_from : (y : DefinitionId) → Contains (edited false xs cs) y → Contains xs y × (Contains cs y → ⊥)
  without_from y h = elim (merged_from id_order id_total id_exact itself itself (one_if false) xs cs up y h) [
    | inl o ↦ (o.0, λ m. o.1 y m refl)
    | inr o ↦ absurd (Contains-nil y o.2)
  ]

  pub without_has : (y : DefinitionId) → Contains xs y → (Contains cs y → ⊥) → Contains (edited false xs cs) y
  without_has y h n = merged_keeps id_order id_total id_exact itself itself (one_if false) xs cs y h (λ c m e. n (subst (λ z. Contains cs z) (sym e) m))

  pub with_from : (y : DefinitionId) → Contains (edited true xs cs) y → Contains xs y ⊎ Contains cs y
  with_from y h = elim (merged_from id_order id_total id_exact itself itself (one_if true) xs cs up y h) [
    | inl o ↦ inl o.0
    | inr o ↦ elim (Contains-cases y o.0 [] o.2) [
      | inl e ↦ inr (subst (λ z. Contains cs z) (sym e) o.1)
      | inr t ↦ absurd (Contains-nil y t)
    ]
  ]

  pub with_new : (y : DefinitionId) → Contains cs y → Contains (edited true xs cs) y
  with_new y m = merged_makes id_order id_total id_exact itself itself (one_if true) xs cs up y y m (Contains-here y [])

  pub with_old : (y : DefinitionId) → Contains xs y → (Contains cs y → ⊥) → Contains (edited true xs cs) y
  with_old y h n = merged_keeps id_order id_total id_exact itself itself (one_if true) xs cs y h (λ c m e. n (subst (λ z. Contains cs z) (sym e) m))

  pub edited_in_order : (b : Bool) → AreInOrder xs → AreInOrder (edited b xs cs)
  edited_in_order true all = merged_rises id_order id_total id_exact itself itself (one_if true) xs cs up all
      (λ ys c. record { place = λ y m. elim (Contains-cases y c [] m) [ inl e ↦ e | inr t ↦ absurd (Contains-nil y t) ]; once = pairs_one (λ (x y : DefinitionId). Before x y) c })
  edited_in_order false all = merged_rises id_order id_total id_exact itself itself (one_if false) xs cs up all
      (λ ys c. record { place = λ y m. absurd (Contains-nil y m); once = pairs_none (λ (x y : DefinitionId). Before x y) })

-- ---- answers of readers, and keys

pub answer_reads : (rs : List Reader) (id : DefinitionId) (o : Answer) → HasAnswer rs id o → HasKey rs id o.observation.key
answer_reads rs id o h = subst (λ z. HasKey rs z o.observation.key) h.2 (reads_has o.observation.key rs h.0 h.1 (observes_has o.observation.key h.0 o h.3 refl))

pub reads_answer : (rs : List Reader) (id : DefinitionId) (k : Key) → HasKey rs id k → (o : Answer) × HasAnswer rs id o × (o.observation.key ≡ k)
reads_answer rs id k c =
    let r = reads_from k rs id c in
    let x = observes_from k r.0 r.3 in
    (x.0, (r.0, r.1, r.2, x.1), x.2)

-- ---- the readers of a key after an edit

module _ (F : Facts) (old going coming new : List Reader) (edit : IsEdit F old going coming new) (k : Key) where
  -- who reads it afterwards came, or stayed
  pub read_after : (id : DefinitionId) → HasKey new id k → HasKey coming id k ⊎ (HasKey old id k × (HasKey going id k → ⊥))
  read_after id c =
      let a = reads_answer new id k c in
      elim (edit.difference.from id a.0 a.1) [
        | inl j ↦ inl (subst (λ z. HasKey coming id z) a.2 j)
        | inr o ↦ inr (subst (λ z. HasKey old id z) a.2 (answer_reads old id a.0 o.0), λ m. o.1 (subst (λ z. HasKey going id z) (sym a.2) m))
      ]

  pub came : (id : DefinitionId) → HasKey coming id k → HasKey new id k
  came id c =
      let a = reads_answer coming id k c in
      subst (λ z. HasKey new id z) a.2 (answer_reads new id a.0 (edit.difference.comes id a.0 a.1))

  pub stayed : (id : DefinitionId) → HasKey old id k → (HasKey going id k → ⊥) → HasKey new id k
  stayed id c n =
      let a = reads_answer old id k c in
      subst (λ z. HasKey new id z) a.2 (edit.difference.stays id a.0 a.1 (λ m. n (subst (λ z. HasKey going id z) a.2 m)))

  old_in : AreInOrder (readers_of k old)
  old_in = reads_in_order k old edit.old_order

  going_in : AreInOrder (readers_of k going)
  going_in = reads_in_order k going edit.going_order

  coming_in : AreInOrder (readers_of k coming)
  coming_in = reads_in_order k coming edit.coming_order

  with_kept : (xs : List DefinitionId) (y : DefinitionId) → Contains xs y → Contains (edited true xs (readers_of k coming)) y
  with_kept xs y h = elim (about_id (readers_of k coming) y) [
    | inl c ↦ with_new xs (readers_of k coming) coming_in y c
    | inr n ↦ with_old xs (readers_of k coming) coming_in y h n
  ]

  pub edited_readers : edited true (edited false (readers_of k old) (readers_of k going)) (readers_of k coming) ≡ readers_of k new
  edited_readers =
      let rest = edited false (readers_of k old) (readers_of k going) in
      same_ids (edited true rest (readers_of k coming)) (readers_of k new)
      (edited_in_order rest (readers_of k coming) coming_in true (edited_in_order (readers_of k old) (readers_of k going) going_in false old_in))
      (reads_in_order k new edit.new_order)
      (λ z c. elim (with_from rest (readers_of k coming) coming_in z c) [
        | inl o ↦ let w = without_from (readers_of k old) (readers_of k going) going_in z o in stayed z w.0 w.1
        | inr j ↦ came z j
      ])
      (λ z c. elim (read_after z c) [
        | inl j ↦ with_new rest (readers_of k coming) coming_in z j
        | inr o ↦ with_kept rest z (without_has (readers_of k old) (readers_of k going) going_in z o.0 o.1)
      ])

  -- a key that nobody comes to or goes from has the readers that it had
  pub same_readers : readers_of k coming ≡ [] → readers_of k going ≡ [] → readers_of k old ≡ readers_of k new
  same_readers nc ng = sym (ap (λ zs. edited true (edited false (readers_of k old) zs) (readers_of k coming)) ng ∙ ap (λ zs. edited true (readers_of k old) zs) nc) ∙ edited_readers

-- ---- tests of what was observed

-- a test that is true exactly if a key was observed
pub observes_is : (b : Bool) (k : Key) (os : List Observation) → (b ≡ true → Contains (keys_of os) k) → (Contains (keys_of os) k → b ≡ true) → b ≡ list_any (λ (o : Observation). is_key o.key k) os
observes_is b k os to from =
    let p = λ (o : Observation). is_key o.key k in
    elim (either b) [
      | inl t ↦
          let m = Contains-map_from (λ (o : Observation). o.key) os k (to t) in
          t ∙ sym (any_has p os m.0 m.1 ((is_key_decides m.0.key k).1 m.2))
      | inr f ↦ elim (either (list_any p os)) [
        | inl t ↦
            let a = any_from p os t in
            let c : Contains (keys_of os) k = subst (Contains (keys_of os)) ((is_key_decides a.0.key k).0 a.2) (Contains-map (λ (o : Observation). o.key) os a.0 a.1) in
            from c ∙ sym t
        | inr n ↦ f ∙ sym n
      ]
    ]
