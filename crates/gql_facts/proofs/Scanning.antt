-- Scans, one after another.
use Rattle.std.specs.Prelude.{◌≡◌, ◌⊎◌, List, [], ◌∷◌, ◌++◌, option_map, Contains, refl, Some, None, if◌then◌else◌}
use Rattle.std.proofs.Common.{ap, sym, ◌∙◌, subst, inl, inr}
use Rattle.std.proofs.lemmas.List.Elements.{Contains-append_left, Contains-append_right}
use Rattle.indexmap.specs.IndexSet.{insert_key}
use Rattle.gql_facts.specs.declared.fact.Fact.{Fact}
use Rattle.gql_facts.specs.declared.key.Key.{Key}
use Rattle.gql_facts.specs.Keys.{is_key, is_key_decides}
use Rattle.gql_facts.specs.Worlds.{Facts, Record, noted}
use Rattle.gql_facts.specs.Scans.{Records, Scans, add_keys}
use Rattle.gql_facts.specs.ListMembers.{Contains-nil, Contains-here, Contains-there, Contains-cases, either}

pub add_more : (o ks js : List Key) → add_keys o (ks ++ js) ≡ add_keys (add_keys o ks) js
add_more o [] js = refl
add_more o (k ∷ ks) js = add_more (insert_key is_key o k) ks js

-- ---- one answer

noted_from : (k : Key) (f : Fact) (es : List (Key × Fact)) (e : Key × Fact) → Contains (noted k f es) e → Contains es e ⊎ (e ≡ (k, f))
noted_from k f [] e h = elim (Contains-cases e (k, f) [] h) [ inl s ↦ inr s | inr t ↦ absurd (Contains-nil e t) ]
noted_from k f (x ∷ xs) e h = elim (either (is_key k x.0)) [
  | inl q ↦ elim (Contains-cases e (x.0, f) xs (subst (λ b. Contains (if b then (x.0, f) ∷ xs else x ∷ noted k f xs) e) q h)) [
    | inl s ↦ inr (s ∙ ap (λ z. (z, f)) (sym ((is_key_decides k x.0).0 q)))
    | inr t ↦ inl (Contains-there e x xs t)
  ]
  | inr q ↦ elim (Contains-cases e x (noted k f xs) (subst (λ b. Contains (if b then (x.0, f) ∷ xs else x ∷ noted k f xs) e) q h)) [
    | inl s ↦ inl (subst (λ z. Contains (x ∷ xs) z) (sym s) (Contains-here x xs))
    | inr t ↦ elim (noted_from k f xs e t) [ inl o ↦ inl (Contains-there e x xs o) | inr s ↦ inr s ]
  ]
]

noted_stays : (k : Key) (facts : Facts) (es : List (Key × Fact)) (e : Key × Fact) → e.1 ≡ facts e.0 → Contains es e → Contains (noted k (facts k) es) e
noted_stays k facts [] e r h = absurd (Contains-nil e h)
noted_stays k facts (x ∷ xs) e r h = elim (either (is_key k x.0)) [
  | inl q ↦ subst (λ b. Contains (if b then (x.0, facts k) ∷ xs else x ∷ noted k (facts k) xs) e) (sym q) (elim (Contains-cases e x xs h) [
    | inl s ↦
        let same : k ≡ x.0 = (is_key_decides k x.0).0 q in
        let is : e ≡ (x.0, facts k) = one_entry e x.0 (facts k) (ap (λ z. z.0) s) (r ∙ ap facts (ap (λ z. z.0) s) ∙ ap facts (sym same)) in
        subst (λ z. Contains ((x.0, facts k) ∷ xs) z) (sym is) (Contains-here (x.0, facts k) xs)
    | inr t ↦ Contains-there e (x.0, facts k) xs t
  ])
  | inr q ↦ subst (λ b. Contains (if b then (x.0, facts k) ∷ xs else x ∷ noted k (facts k) xs) e) (sym q) (elim (Contains-cases e x xs h) [
    | inl s ↦ subst (λ z. Contains (x ∷ noted k (facts k) xs) z) (sym s) (Contains-here x (noted k (facts k) xs))
    | inr t ↦ Contains-there e x (noted k (facts k) xs) (noted_stays k facts xs e r t)
  ])
]
  where
    one_entry : (e : Key × Fact) (a : Key) (b : Fact) → e.0 ≡ a → e.1 ≡ b → e ≡ (a, b)
    one_entry (x, y) a b p q = ap (λ z. (z, y)) p ∙ ap (λ z. (a, z)) q

-- the answer is there afterwards
pub noted_there : (k : Key) (f : Fact) (es : List (Key × Fact)) → Contains (noted k f es) (k, f)
noted_there k f [] = Contains-here (k, f) []
noted_there k f (x ∷ xs) = elim (either (is_key k x.0)) [
  | inl q ↦ subst (λ b. Contains (if b then (x.0, f) ∷ xs else x ∷ noted k f xs) (k, f)) (sym q)
      (subst (λ z. Contains ((x.0, f) ∷ xs) (z, f)) (sym ((is_key_decides k x.0).0 q)) (Contains-here (x.0, f) xs))
  | inr q ↦ subst (λ b. Contains (if b then (x.0, f) ∷ xs else x ∷ noted k f xs) (k, f)) (sym q) (Contains-there (k, f) x (noted k f xs) (noted_there k f xs))
]

module _ (facts : Facts) where
  pub records_one : (k : Key) (before : Record) → Records facts (k ∷ []) before (option_map (noted k (facts k)) before)
  records_one k None = record {
    is_kept = refl;
    right = λ e h. inl h;
    stays = λ e r h. h;
  }
  records_one k (Some es) = record {
    is_kept = refl;
    right = λ e h. elim (noted_from k (facts k) es e h) [
      | inl o ↦ inl o
      | inr s ↦ inr (subst (λ z. Contains (k ∷ []) z) (sym (ap (λ z. z.0) s)) (Contains-here k []), ap (λ z. z.1) s ∙ ap facts (sym (ap (λ z. z.0) s)))
    ];
    stays = λ e r h. noted_stays k facts es e r h;
  }

  records_none : (before : Record) → Records facts [] before before
  records_none before = record { is_kept = refl; right = λ e h. inl h; stays = λ e r h. h }

  pub records_then : (ks js : List Key) (a b c : Record) → Records facts ks a b → Records facts js b c → Records facts (ks ++ js) a c
  records_then ks js a b c p q = record {
    is_kept = q.is_kept ∙ p.is_kept;
    right = λ e h. elim (q.right e h) [
      | inl o ↦ elim (p.right e o) [ inl i ↦ inl i | inr n ↦ inr (Contains-append_left ks js e.0 n.0, n.1) ]
      | inr n ↦ inr (Contains-append_right ks js e.0 n.0, n.1)
    ];
    stays = λ e r h. q.stays e r (p.stays e r h);
  }

  pub records_any : (ks : List Key) (a : Record) → Records facts ks a a
  records_any ks a = record { is_kept = refl; right = λ e h. inl h; stays = λ e r h. h }

  -- ---- scans

  -- nothing is asked
  pub no_scan : (o : List Key) (a : Record) → Scans facts [] o a o a
  no_scan o a = record { keys = refl; records = records_none a }

  -- keys are kept and not asked
  pub kept_scan : {ks o n : List Key} (a : Record) → n ≡ add_keys o ks → Scans facts ks o a n a
  kept_scan {ks} a e = record { keys = e; records = records_any ks a }

  -- a key is kept and asked
  pub asked_scan : (k : Key) (o n : List Key) (a b : Record) → n ≡ insert_key is_key o k → b ≡ option_map (noted k (facts k)) a → Scans facts (k ∷ []) o a n b
  asked_scan k o n a b e f = record { keys = e; records = subst (λ c. Records facts (k ∷ []) a c) (sym f) (records_one k a) }

  -- one scan after another
  pub scans_then : {ks js o n m : List Key} {a b c : Record} → Scans facts ks o a n b → Scans facts js n b m c → Scans facts (ks ++ js) o a m c
  scans_then {ks} {js} {o} {n} {m} {a} {b} {c} p q = record {
    keys = q.keys ∙ ap (λ z. add_keys z js) p.keys ∙ sym (add_more o ks js);
    records = records_then ks js a b c p.records q.records;
  }
