-- A walk asks for just what a definition reads.
use Rattle.std.specs.Prelude.{◌≡◌, ℕ, zero, suc, ◌+◌, ◌-◌, ◌≤◌, ◌<◌, ◌⊎◌, List, [], ◌∷◌, ◌++◌, flat_map, take, length, slice_get, is_some, option_map, Contains, true, refl, Some, None, if◌then◌else◌}
use Rattle.std.specs.List.{list_any, IsDistinct}
use Rattle.std.proofs.Common.{ap, sym, ◌∙◌, subst, inl, inr, arith, append-nil, length-append}
use Rattle.std.specs.Cmp.{decided}
use Rattle.std.proofs.lemmas.List.Elements.{Contains-append_left, Contains-append_right, Contains-append_cases}
use Rattle.std.proofs.lemmas.Map.Made.{length-le_from_is_member}
use Rattle.indexmap.specs.IndexSet.{insert_key}
use Rattle.gql_ast.specs.declared.definition.Definition.{Definition}
use Rattle.gql_facts.specs.declared.fact.Fact.{Fact}
use Rattle.gql_facts.specs.declared.fact.Fact.TheVariants as fact
use Rattle.gql_facts.specs.declared.fact.FragmentFact.{FragmentFact}
use Rattle.gql_facts.specs.declared.key.Key.{Key}
use Rattle.gql_facts.specs.declared.key.Key.TheVariants as key
use Rattle.gql_facts.specs.Keys.{is_key, is_key_decides}
use Rattle.gql_facts.specs.Members.{Lists}
use Rattle.gql_facts.specs.Worlds.{Facts, IsWorld, Answers, Record, answers_in, noted}
use Rattle.gql_facts.specs.OwnReads.{own_reads, fragment_reads}
use Rattle.gql_facts.specs.Reads.{Asked, AskedAmong, Reads, own, of_fragment, of_type, Reaches, by_definition, by_fragment, types_in, type_reads}
use Rattle.gql_facts.specs.Scans.{Records, Scans, add_keys}
use Rattle.gql_facts.specs.Walks.{IsWalked, Visits, led_to, types_led_to, fragment_led_to, member_in, own_keys, all_keys}
use Rattle.gql_facts.specs.ListMembers.{Contains-nil, Contains-here, Contains-there, Contains-cases, Contains-flat_map, Contains-flat_map_from, either, some_same}
use Rattle.gql_facts.proofs.Scanning.{noted_there, records_one}

-- ---- keys that are kept

any_is : (k : Key) (ks : List Key) → list_any (is_key k) ks ≡ true → Contains ks k
any_is k [] e = absurd (cc e)
any_is k (x ∷ xs) e = elim (either (is_key k x)) [
  | inl q ↦ subst (λ z. Contains (x ∷ xs) z) (sym ((is_key_decides k x).0 q)) (Contains-here x xs)
  | inr q ↦ Contains-there k x xs (any_is k xs (sym (rw q refl) ∙ e))
]

is_any : (k : Key) (ks : List Key) → Contains ks k → list_any (is_key k) ks ≡ true
is_any k [] h = absurd (Contains-nil k h)
is_any k (x ∷ xs) h = elim (Contains-cases k x xs h) [
  | inl e ↦ rw ((is_key_decides k x).1 e) refl
  | inr t ↦ elim (either (is_key k x)) [ inl q ↦ rw q refl | inr q ↦ rw q (is_any k xs t) ]
]

-- keeping a key puts it last, or changes nothing
one_more : (o : List Key) (k : Key) → (more : List Key) × (insert_key is_key o k ≡ o ++ more)
one_more o k = elim (either (list_any (is_key k) o)) [
  | inl q ↦ ([], rw q (sym (append-nil o)))
  | inr q ↦ (k ∷ [], rw q refl)
]

append_assoc : (a b c : List Key) → (a ++ b) ++ c ≡ a ++ (b ++ c)
append_assoc [] b c = refl
append_assoc (x ∷ a) b c = ap (λ l. x ∷ l) (append_assoc a b c)

-- keys that are kept stay where they are
pub more_keys : (o ks : List Key) → (more : List Key) × (add_keys o ks ≡ o ++ more)
more_keys o [] = ([], sym (append-nil o))
more_keys o (k ∷ ks) =
    let a = one_more o k in
    let b = more_keys (insert_key is_key o k) ks in
    (a.0 ++ b.0, b.1 ∙ ap (λ l. l ++ b.0) a.1 ∙ append_assoc o a.0 b.0)

inserted_from : (o : List Key) (k j : Key) → Contains (insert_key is_key o k) j → Contains o j ⊎ (j ≡ k)
inserted_from o k j h = elim (either (list_any (is_key k) o)) [
  | inl q ↦ inl (subst (λ b. Contains (if b then o else o ++ k ∷ []) j) q h)
  | inr q ↦ elim (Contains-append_cases o (k ∷ []) j (subst (λ b. Contains (if b then o else o ++ k ∷ []) j) q h)) [
    | inl a ↦ inl a
    | inr b ↦ elim (Contains-cases j k [] b) [ inl e ↦ inr e | inr t ↦ absurd (Contains-nil j t) ]
  ]
]

inserted : (o : List Key) (k : Key) → Contains (insert_key is_key o k) k
inserted o k = elim (either (list_any (is_key k) o)) [
  | inl q ↦ subst (λ b. Contains (if b then o else o ++ k ∷ []) k) (sym q) (any_is k o q)
  | inr q ↦ subst (λ b. Contains (if b then o else o ++ k ∷ []) k) (sym q) (Contains-append_right o (k ∷ []) k (Contains-here k []))
]

pub added_from : (o ks : List Key) (j : Key) → Contains (add_keys o ks) j → Contains o j ⊎ Contains ks j
added_from o [] j h = inl h
added_from o (k ∷ ks) j h = elim (added_from (insert_key is_key o k) ks j h) [
  | inl a ↦ elim (inserted_from o k j a) [ inl b ↦ inl b | inr e ↦ inr (subst (λ z. Contains (k ∷ ks) z) (sym e) (Contains-here k ks)) ]
  | inr b ↦ inr (Contains-there j k ks b)
]

pub added_old : (o ks : List Key) (j : Key) → Contains o j → Contains (add_keys o ks) j
added_old o ks j h = let m = more_keys o ks in subst (λ l. Contains l j) (sym m.1) (Contains-append_left o m.0 j h)

pub added_new : (o ks : List Key) (j : Key) → Contains ks j → Contains (add_keys o ks) j
added_new o [] j h = absurd (Contains-nil j h)
added_new o (k ∷ ks) j h = elim (Contains-cases j k ks h) [
  | inl e ↦ added_old (insert_key is_key o k) ks j (subst (λ z. Contains (insert_key is_key o k) z) (sym e) (inserted o k))
  | inr t ↦ added_new (insert_key is_key o k) ks j t
]

-- ---- the first keys of a list

take_next : (ks more : List Key) (i : ℕ) (k : Key) → slice_get ks i ≡ Some k → take (suc i) (ks ++ more) ≡ take i ks ++ k ∷ []
take_next [] more i k e = absurd (cc e)
take_next (x ∷ xs) more zero k e = ap (λ z. z ∷ []) (some_same x k e)
take_next (x ∷ xs) more (suc i) k e = ap (λ l. x ∷ l) (take_next xs more i k e)

at_there : (ks : List Key) (i : ℕ) (k : Key) → slice_get ks i ≡ Some k → Contains ks k
at_there [] i k e = absurd (cc e)
at_there (x ∷ xs) zero k e = subst (λ z. Contains (x ∷ xs) z) (some_same x k e) (Contains-here x xs)
at_there (x ∷ xs) (suc i) k e = Contains-there k x xs (at_there xs i k e)

take_within : (i : ℕ) (ks : List Key) (k : Key) → Contains (take i ks) k → Contains ks k
take_within zero ks k h = absurd (Contains-nil k h)
take_within (suc i) [] k h = absurd (Contains-nil k h)
take_within (suc i) (x ∷ xs) k h = elim (Contains-cases k x (take i xs) h) [
  | inl e ↦ subst (λ z. Contains (x ∷ xs) z) (sym e) (Contains-here x xs)
  | inr t ↦ Contains-there k x xs (take_within i xs k t)
]

take_all : (ks : List Key) → take (length ks) ks ≡ ks
take_all [] = refl
take_all (x ∷ xs) = ap (λ l. x ∷ l) (take_all xs)

flat_append : (f : Key → List FragmentFact) (a : List Key) (k : Key) → flat_map f (a ++ k ∷ []) ≡ flat_map f a ++ f k
flat_append f [] k = append-nil (f k)
flat_append f (x ∷ a) k = ap (λ l. f x ++ l) (flat_append f a k) ∙ sym (assoc (f x) (flat_map f a) (f k)) where
  assoc : (a b c : List FragmentFact) → (a ++ b) ++ c ≡ a ++ (b ++ c)
  assoc [] b c = refl
  assoc (y ∷ a) b c = ap (λ l. y ∷ l) (assoc a b c)

-- a key at a place is before the end, also of a longer list
below : (ks : List Key) (i : ℕ) (k : Key) → slice_get ks i ≡ Some k → i < length ks
below [] i k e = absurd (cc e)
below (x ∷ xs) zero k e = omega arith
below (x ∷ xs) (suc i) k e = let h = below xs i k e in omega (arith, h)

longer : (ks more new : List Key) (i : ℕ) (k : Key) → new ≡ ks ++ more → slice_get ks i ≡ Some k → suc i ≤ length new
longer ks more new i k e h = let b = below ks i k h in rw e (omega (arith, b, length-append ks more))

-- before the end there is a key
pub key_at : (ks : List Key) (i : ℕ) → i < length ks → (k : Key) × (slice_get ks i ≡ Some k)
key_at [] i h = absurd (omega (arith, h))
key_at (x ∷ xs) zero h = (x, refl)
key_at (x ∷ xs) (suc i) h = key_at xs i (omega (arith, h))

-- ---- fragments that are read are reached

-- a key of a type, by cases
type_case : (t : List ℕ) (k : Key) → Contains (type_reads t) k → (k ≡ key.KindOf t) ⊎ ((k ≡ key.PossibleOf t) ⊎ ((k ≡ key.InputOf t) ⊎ (k ≡ key.EnumOf t)))
type_case t k h = elim (Contains-cases k (key.KindOf t) (key.PossibleOf t ∷ key.InputOf t ∷ key.EnumOf t ∷ []) h) [
  | inl e ↦ inl e
  | inr h ↦ elim (Contains-cases k (key.PossibleOf t) (key.InputOf t ∷ key.EnumOf t ∷ []) h) [
    | inl e ↦ inr (inl e)
    | inr h ↦ elim (Contains-cases k (key.InputOf t) (key.EnumOf t ∷ []) h) [
      | inl e ↦ inr (inr (inl e))
      | inr h ↦ elim (Contains-cases k (key.EnumOf t) [] h) [ inl e ↦ inr (inr (inr e)) | inr h ↦ absurd (Contains-nil k h) ]
    ]
  ]
]

-- it is none of a fragment
no_type_key : (t n : List ℕ) (k : Key) → Contains (type_reads t) k → k ≡ key.FragmentOf n → ⊥
no_type_key t n k h e = elim (type_case t k h) [
  | inl p ↦ no_kind (sym p ∙ e)
  | inr q ↦ elim q [ inl p ↦ no_possible (sym p ∙ e) | inr r ↦ elim r [ inl p ↦ no_input (sym p ∙ e) | inr p ↦ no_enum (sym p ∙ e) ] ]
]
  where
    no_kind : key.KindOf t ≡ key.FragmentOf n → ⊥
    no_kind e = cc e

    no_possible : key.PossibleOf t ≡ key.FragmentOf n → ⊥
    no_possible e = cc e

    no_input : key.InputOf t ≡ key.FragmentOf n → ⊥
    no_input e = cc e

    no_enum : key.EnumOf t ≡ key.FragmentOf n → ⊥
    no_enum e = cc e

module _ (facts : Facts) (names : List (List ℕ)) (world : IsWorld facts names) (d : Definition) where
  -- only the keys of fragments are answered by fragments
  whose : (k : Key) (f : FragmentFact) → Answers k (fact.Fragment f) → (n : List ℕ) × (k ≡ key.FragmentOf n)
  whose (key.FragmentOf n) f a = (n, refl)
  whose (key.KindOf t) f a = absurd a
  whose (key.FieldOf t n) f a = absurd a
  whose (key.PossibleOf t) f a = absurd a
  whose (key.InputOf t) f a = absurd a
  whose (key.EnumOf t) f a = absurd a
  whose (key.DirectiveOf n) f a = absurd a
  whose (key.RootOf k) f a = absurd a

  by_key : (k : Key) (f : FragmentFact) → facts k ≡ fact.Fragment f → (n : List ℕ) × (k ≡ key.FragmentOf n)
  by_key k f e = whose k f (subst (Answers k) e (world.kinds k))

  reaches_by : {k : Key} {g : FragmentFact} {n : List ℕ} → Reads facts d k → k ≡ key.FragmentOf n → facts (key.FragmentOf n) ≡ fact.Fragment g → Reaches facts d g
  reaches_by {k} {g} {n} (own c) e l = by_definition (subst (λ z. Contains (own_reads facts d) z) e c) l
  reaches_by {k} {g} {n} (of_fragment {g = f} r c) e l = by_fragment r (subst (λ z. Contains (fragment_reads facts f.fragment) z) e c) l
  reaches_by {k} {g} {n} (of_type {j} {k = m} {t} r c h) e l = absurd (no_type_key t n m h e)

  pub reached : (k : Key) (g : FragmentFact) → Reads facts d k → facts k ≡ fact.Fragment g → Reaches facts d g
  reached k g r e = let n = by_key k g e in reaches_by r n.1 (ap facts (sym n.1) ∙ e)

  -- what an answer leads to is read
  member_is : (f : Fact) (g : FragmentFact) → Contains (member_in f) g → f ≡ fact.Fragment g
  member_is (fact.Fragment f) g h = elim (Contains-cases g f [] h) [ inl e ↦ ap fact.Fragment (sym e) | inr t ↦ absurd (Contains-nil g t) ]
  member_is fact.Absent g h = absurd (Contains-nil g h)
  member_is (fact.Kind x) g h = absurd (Contains-nil g h)
  member_is (fact.Field x) g h = absurd (Contains-nil g h)
  member_is (fact.Possible x) g h = absurd (Contains-nil g h)
  member_is (fact.Input x) g h = absurd (Contains-nil g h)
  member_is (fact.Enum x) g h = absurd (Contains-nil g h)
  member_is (fact.Directive x) g h = absurd (Contains-nil g h)
  member_is (fact.Root x) g h = absurd (Contains-nil g h)

  led_read : (j k : Key) → Reads facts d j → Contains (led_to facts (facts j)) k → Reads facts d k
  led_read j k r h = elim (Contains-append_cases (types_led_to (facts j)) (fragment_led_to facts (facts j)) k h) [
    | inl a ↦ let t = Contains-flat_map_from type_reads (types_in (facts j)) k a in of_type r t.1 t.2
    | inr b ↦ let g = Contains-flat_map_from (λ (g : FragmentFact). fragment_reads facts g.fragment) (member_in (facts j)) k b in
        of_fragment (reached j g.0 r (member_is (facts j) g.0 g.1)) g.2
  ]

  -- ---- the steps of a walk

  pub walked_first : (before after : Record) (keys : List Key) → Scans facts (own_reads facts d) [] before keys after → IsWalked facts d before 0 keys [] after
  walked_first before after keys s = record {
    within = omega arith;
    read = λ k h. elim (added_from [] (own_reads facts d) k (subst (λ l. Contains l k) s.keys h)) [ inl a ↦ absurd (Contains-nil k a) | inr b ↦ own b ];
    own = λ k h. subst (λ l. Contains l k) (sym s.keys) (added_new [] (own_reads facts d) k h);
    followed = λ j k h l. absurd (Contains-nil j h);
    members = refl;
    records = record {
      is_kept = s.records.is_kept;
      right = λ e h. elim (s.records.right e h) [ inl o ↦ inl o | inr n ↦ inr (subst (λ l. Contains l e.0) (sym s.keys) (added_new [] (own_reads facts d) e.0 n.0), n.1) ];
      stays = s.records.stays;
    };
    noted = λ b k h. absurd (Contains-nil k h);
  }

  -- the key at this place is asked, and what its answer leads to is kept
  pub walked_more : (start before between after : Record) (at : ℕ) (keys new : List Key) (members : List FragmentFact) (k : Key) →
      IsWalked facts d start at keys members before → slice_get keys at ≡ Some k → between ≡ option_map (noted k (facts k)) before →
      Scans facts (led_to facts (facts k)) keys between new after → IsWalked facts d start (suc at) new (members ++ member_in (facts k)) after
  walked_more start before between after at keys new members k w here asked s =
      let more = more_keys keys (led_to facts (facts k)) in
      let split : new ≡ keys ++ more.0 = s.keys ∙ more.1 in
      let firsts : take (suc at) new ≡ take at keys ++ k ∷ [] = ap (take (suc at)) split ∙ take_next keys more.0 at k here in
      let was : Contains keys k = at_there keys at k here in
      let old : (j : Key) → Contains keys j → Contains new j = λ j h. subst (λ l. Contains l j) (sym s.keys) (added_old keys (led_to facts (facts k)) j h) in
      let led : (j : Key) → Contains (led_to facts (facts k)) j → Contains new j = λ j h. subst (λ l. Contains l j) (sym s.keys) (added_new keys (led_to facts (facts k)) j h) in
      let one : Records facts (k ∷ []) before between = subst (λ c. Records facts (k ∷ []) before c) (sym asked) (records_one facts k before) in
      record {
        within = longer keys more.0 new at k split here;
        read = λ j h. elim (added_from keys (led_to facts (facts k)) j (subst (λ l. Contains l j) s.keys h)) [
          | inl a ↦ w.read j a
          | inr b ↦ led_read k j (w.read k was) b
        ];
        own = λ j h. old j (w.own j h);
        followed = λ i j h l. elim (Contains-append_cases (take at keys) (k ∷ []) i (subst (λ z. Contains z i) firsts h)) [
          | inl a ↦ old j (w.followed i j a l)
          | inr b ↦ elim (Contains-cases i k [] b) [
            | inl e ↦ led j (subst (λ z. Contains (led_to facts (facts z)) j) e l)
            | inr t ↦ absurd (Contains-nil i t)
          ]
        ];
        members = ap (λ l. l ++ member_in (facts k)) w.members ∙ sym (flat_append (λ z. member_in (facts z)) (take at keys) k)
            ∙ ap (flat_map (λ z. member_in (facts z))) (sym firsts);
        records = record {
          is_kept = s.records.is_kept ∙ one.is_kept ∙ w.records.is_kept;
          right = λ e h. elim (s.records.right e h) [
            | inr n ↦ inr (led e.0 n.0, n.1)
            | inl o ↦ elim (one.right e o) [
              | inr n ↦ elim (Contains-cases e.0 k [] n.0) [
                | inl q ↦ inr (subst (λ z. Contains new z) (sym q) (old k was), n.1)
                | inr t ↦ absurd (Contains-nil e.0 t)
              ]
              | inl p ↦ elim (w.records.right e p) [ inl q ↦ inl q | inr n ↦ inr (old e.0 n.0, n.1) ]
            ]
          ];
          stays = λ e r h. s.records.stays e r (one.stays e r (w.records.stays e r h));
        };
        noted = λ b j h. elim (Contains-append_cases (take at keys) (k ∷ []) j (subst (λ z. Contains z j) firsts h)) [
          | inl a ↦ s.records.stays (j, facts j) refl (one.stays (j, facts j) refl (w.noted b j a))
          | inr t ↦ elim (Contains-cases j k [] t) [
            | inr u ↦ absurd (Contains-nil j u)
            | inl e ↦ s.records.stays (j, facts j) refl (subst (λ z. Contains (answers_in between) (z, facts z)) (sym e)
                (there before between (w.records.is_kept ∙ b) asked))
          ]
        ];
      }
    where
      there : (r c : Record) → is_some r ≡ true → c ≡ option_map (noted k (facts k)) r → Contains (answers_in c) (k, facts k)
      there None c e f = absurd (cc e)
      there (Some es) c e f = subst (λ z. Contains (answers_in z) (k, facts k)) (sym f) (noted_there k (facts k) es)

  -- ---- the end of a walk

  module _ (keys : List Key) (members : List FragmentFact) (start now : Record) (w : IsWalked facts d start (length keys) keys members now) where
    all_led : (j k : Key) → Contains keys j → Contains (led_to facts (facts j)) k → Contains keys k
    all_led j k h l = w.followed j k (subst (λ z. Contains z j) (sym (take_all keys)) h) l

    led_fragment : (j k : Key) (g : FragmentFact) → Contains keys j → facts j ≡ fact.Fragment g → Contains (fragment_reads facts g.fragment) k → Contains keys k
    led_fragment j k g h e c = all_led j k h (subst (λ f. Contains (led_to facts f) k) (sym e)
        (Contains-append_right [] (fragment_led_to facts (fact.Fragment g)) k (Contains-append_left (fragment_reads facts g.fragment) [] k c)))

    reached_key : {g : FragmentFact} → Reaches facts d g → (n : List ℕ) × Contains keys (key.FragmentOf n) × (facts (key.FragmentOf n) ≡ fact.Fragment g)
    reached_key (by_definition {n} {g} c e) = (n, w.own (key.FragmentOf n) c, e)
    reached_key (by_fragment {n} {f} {g} r c e) = let m = reached_key r in (n, led_fragment (key.FragmentOf m.0) (key.FragmentOf n) f m.1 m.2 c, e)

    reads_key : {k : Key} → Reads facts d k → Contains keys k
    reads_key (own {k} c) = w.own k c
    reads_key (of_fragment {g} {k} r c) = let m = reached_key r in led_fragment (key.FragmentOf m.0) k g m.1 m.2 c
    reads_key (of_type {j} {k} {t} r c h) = all_led j k (reads_key r) (Contains-append_left (types_led_to (facts j)) (fragment_led_to facts (facts j)) k (Contains-flat_map type_reads (types_in (facts j)) t k c h))

    pub walked_keys : Lists keys (Reads facts d)
    walked_keys = record { sound = w.read; complete = λ k r. reads_key r }

    all_members : members ≡ flat_map (λ k. member_in (facts k)) keys
    all_members = w.members ∙ ap (flat_map (λ k. member_in (facts k))) (take_all keys)

    pub walked_members : Lists members (Reaches facts d)
    walked_members = record {
      sound = λ g h. let m = Contains-flat_map_from (λ k. member_in (facts k)) keys g (subst (λ l. Contains l g) all_members h) in
          reached m.0 g (w.read m.0 m.1) (member_is (facts m.0) g m.2);
      complete = λ g r. let m = reached_key r in subst (λ l. Contains l g) (sym all_members)
          (Contains-flat_map (λ k. member_in (facts k)) keys (key.FragmentOf m.0) g m.1 (subst (λ f. Contains (member_in f) g) (sym m.2) (Contains-here g [])));
    }

  -- ---- a walk ends

  own_met : (k : Key) → Contains (own_keys facts names d) k → Contains (all_keys facts names d) k
  own_met k h = Contains-append_left (own_keys facts names d) _ k h

  fragment_met : (g : FragmentFact) (k : Key) → Reaches facts d g → Contains (fragment_reads facts g.fragment) k → Contains (own_keys facts names d) k
  fragment_met g k r c = from (name_of r) where
    name_of : {g : FragmentFact} → Reaches facts d g → (n : List ℕ) × (facts (key.FragmentOf n) ≡ fact.Fragment g)
    name_of (by_definition {n} {g} c e) = (n, e)
    name_of (by_fragment {n} {f} {g} r c e) = (n, e)

    from : (n : List ℕ) × (facts (key.FragmentOf n) ≡ fact.Fragment g) → Contains (own_keys facts names d) k
    from (n, e) = Contains-append_right (own_reads facts d) (flat_map (λ n. fragment_led_to facts (facts (key.FragmentOf n))) names) k
        (Contains-flat_map (λ n. fragment_led_to facts (facts (key.FragmentOf n))) names n k
        (world.fragments n (λ a. let b : fact.Fragment g ≡ fact.Absent = sym e ∙ a in cc b))
        (subst (λ f. Contains (fragment_led_to facts f) k) (sym e) (Contains-append_left (fragment_reads facts g.fragment) [] k c)))

  -- an answer that names a type is that of an input object, or is not asked of a type
  names_type : (t u : List ℕ) (j : Key) → Contains (type_reads t) j → Contains (types_in (facts j)) u → Contains names t × (j ≡ key.InputOf t)
  names_type t u j h c = elim (type_case t j h) [
    | inl p ↦ absurd (no_kind (facts (key.KindOf t)) (world.kinds (key.KindOf t)) (subst (λ z. Contains (types_in (facts z)) u) p c))
    | inr q ↦ elim q [
      | inl p ↦ absurd (no_possible (facts (key.PossibleOf t)) (world.kinds (key.PossibleOf t)) (subst (λ z. Contains (types_in (facts z)) u) p c))
      | inr r ↦ elim r [
        | inl p ↦ (world.inputs t (λ a. Contains-nil u (subst (λ f. Contains (types_in f) u) a (subst (λ z. Contains (types_in (facts z)) u) p c))), p)
        | inr p ↦ absurd (no_enum (facts (key.EnumOf t)) (world.kinds (key.EnumOf t)) (subst (λ z. Contains (types_in (facts z)) u) p c))
      ]
    ]
  ]
    where
      no_kind : (f : Fact) → Answers (key.KindOf t) f → Contains (types_in f) u → ⊥
      no_kind fact.Absent a h = Contains-nil u h
      no_kind (fact.Kind x) a h = Contains-nil u h
      no_kind (fact.Field x) a h = a
      no_kind (fact.Possible x) a h = a
      no_kind (fact.Input x) a h = a
      no_kind (fact.Enum x) a h = a
      no_kind (fact.Directive x) a h = a
      no_kind (fact.Root x) a h = a
      no_kind (fact.Fragment x) a h = a

      no_possible : (f : Fact) → Answers (key.PossibleOf t) f → Contains (types_in f) u → ⊥
      no_possible fact.Absent a h = Contains-nil u h
      no_possible (fact.Kind x) a h = a
      no_possible (fact.Field x) a h = a
      no_possible (fact.Possible x) a h = Contains-nil u h
      no_possible (fact.Input x) a h = a
      no_possible (fact.Enum x) a h = a
      no_possible (fact.Directive x) a h = a
      no_possible (fact.Root x) a h = a
      no_possible (fact.Fragment x) a h = a

      no_enum : (f : Fact) → Answers (key.EnumOf t) f → Contains (types_in f) u → ⊥
      no_enum fact.Absent a h = Contains-nil u h
      no_enum (fact.Kind x) a h = a
      no_enum (fact.Field x) a h = a
      no_enum (fact.Possible x) a h = a
      no_enum (fact.Input x) a h = a
      no_enum (fact.Enum x) a h = Contains-nil u h
      no_enum (fact.Directive x) a h = a
      no_enum (fact.Root x) a h = a
      no_enum (fact.Fragment x) a h = a

  read_met : {k : Key} → Reads facts d k → Contains (own_keys facts names d) k ⊎ ((t : List ℕ) × Contains (type_reads t) k × Contains (all_keys facts names d) k)
  read_met (own {k} c) = inl (Contains-append_left (own_reads facts d) _ k c)
  read_met (of_fragment {g} {k} r c) = inl (fragment_met g k r c)
  read_met (of_type {j} {k} {t} r c h) = inr (
    t,
    h,
    elim (read_met r) [
      | inl a ↦ Contains-append_right (own_keys facts names d) _ k (Contains-append_left (flat_map (λ z. types_led_to (facts z)) (own_keys facts names d)) _ k
          (Contains-flat_map (λ z. types_led_to (facts z)) (own_keys facts names d) j k a (Contains-flat_map type_reads (types_in (facts j)) t k c h)))
      | inr b ↦ let n = names_type b.0 t j b.1 c in
          Contains-append_right (own_keys facts names d) _ k (Contains-append_right (flat_map (λ z. types_led_to (facts z)) (own_keys facts names d)) _ k
          (Contains-flat_map (λ m. types_led_to (facts (key.InputOf m))) names b.0 k n.0
          (Contains-flat_map type_reads (types_in (facts (key.InputOf b.0))) t k (subst (λ z. Contains (types_in (facts z)) t) n.1 c) h)))
    ],
  )

  met : (k : Key) → Reads facts d k → Contains (all_keys facts names d) k
  met k r = elim (read_met r) [ inl a ↦ own_met k a | inr b ↦ b.2 ]

  -- so a walk meets at most as many keys
  pub at_most : (keys : List Key) → IsDistinct is_key keys → ((k : Key) → Contains keys k → Reads facts d k) → length keys ≤ length (all_keys facts names d)
  at_most keys distinct reads = length-le_from_is_member (decided is_key is_key_decides) keys (all_keys facts names d) distinct
      (λ k h. is_any k (all_keys facts names d) (met k (reads k (any_is k keys h))))

  walked_among : (at : ℕ) (keys : List Key) (members : List FragmentFact) (start now : Record)
      → IsWalked facts d start at keys members now → AskedAmong facts (Reads facts d) start now
  walked_among at keys members start now w = record {
    is_kept = w.records.is_kept;
    right = λ e h. elim (w.records.right e h) [
      | inl o ↦ inl o
      | inr n ↦ inr (w.read e.0 n.0, n.1)
    ];
    stays = w.records.stays;
  }

  -- a first scan that fails
  pub failed_first : (start now : Record) → Records facts (own_reads facts d) start now
      → AskedAmong facts (Reads facts d) start now
  failed_first start now r = record {
    is_kept = r.is_kept;
    right = λ e h. elim (r.right e h) [ inl o ↦ inl o | inr n ↦ inr (own n.0, n.1) ];
    stays = r.stays;
  }

  -- a visit that fails
  failed_visit : (start before now : Record) (at : ℕ) (keys : List Key) (members : List FragmentFact)
      (k : Key) → IsWalked facts d start at keys members before → slice_get keys at ≡ Some k
      → Records facts (k ∷ led_to facts (facts k)) before now
      → AskedAmong facts (Reads facts d) start now
  failed_visit start before now at keys members k w here r =
      let walked = walked_among at keys members start before w in
      let is_read : Reads facts d k = w.read k (at_there keys at k here) in
      record {
        is_kept = r.is_kept ∙ walked.is_kept;
        right = λ e h. elim (r.right e h) [
          | inl o ↦ walked.right e o
          | inr n ↦ elim (Contains-cases e.0 k (led_to facts (facts k)) n.0) [
            | inl q ↦ inr (subst (λ z. Reads facts d z) (sym q) is_read, n.1)
            | inr t ↦ inr (led_read k e.0 is_read t, n.1)
          ]
        ];
        stays = λ e q h. r.stays e q (walked.stays e q h);
      }

  pub walked_asked : (keys : List Key) (members : List FragmentFact) (start now : Record) → IsWalked facts d start (length keys) keys members now → Asked facts (Reads facts d) start now
  walked_asked keys members start now w = record {
    among = walked_among (length keys) keys members start now w;
    all = λ b k r. w.noted b k (subst (λ l. Contains l k) (sym (take_all keys)) (reads_key keys members start now w r));
  }

-- ---- as the clauses of the calls give it

module _ (facts : Facts) (names : List (List ℕ)) (world : IsWorld facts names) (d : Definition) where
  pub first_visit : (before after : Record) (old keys : List Key) (members : List FragmentFact) → old ≡ [] → members ≡ [] → Scans facts (own_reads facts d) old before keys after →
      IsWalked facts d before 0 keys members after
  first_visit before after old keys members e f s = rw f (walked_first facts names world d before after keys (subst (λ o. Scans facts (own_reads facts d) o before keys after) e s))

  pub next_visit : (G : Facts) (start before after : Record) (at : ℕ) (keys new : List Key) (members found : List FragmentFact) → G ≡ facts → at < length keys →
      IsWalked facts d start at keys members before → ((k : Key) → slice_get keys at ≡ Some k → Visits G k keys members before new found after) → IsWalked facts d start (at + 1) new found after
  next_visit G start before after at keys new members found e lt w visits =
      let k = key_at keys at lt in
      let v = subst (λ H. Visits H k.0 keys members before new found after) e (visits k.0 k.1) in
      let more = walked_more facts names world d start before (option_map (noted k.0 (facts k.0)) before) after at keys new members k.0 w k.1 refl v.0 in
      subst (λ n. IsWalked facts d start n new found after) (omega arith) (subst (λ ms. IsWalked facts d start (suc at) new ms after) (sym v.1) more)

  pub failed_next : (G : Facts) (start before now : Record) (at : ℕ) (keys : List Key)
      (members : List FragmentFact) → G ≡ facts → at < length keys
      → IsWalked facts d start at keys members before
      → ((k : Key) → slice_get keys at ≡ Some k → Records G (k ∷ led_to G (G k)) before now)
      → AskedAmong facts (Reads facts d) start now
  failed_next G start before now at keys members e lt w fails =
      let k = key_at keys at lt in
      let r = subst (λ H. Records H (k.0 ∷ led_to H (H k.0)) before now) e (fails k.0 k.1) in
      failed_visit facts names world d start before now at keys members k.0 w k.1 r

  pub fewer_left : (start now : Record) (at : ℕ) (keys : List Key) (members : List FragmentFact) → IsWalked facts d start at keys members now → IsDistinct is_key keys → at < length keys →
      length (all_keys facts names d) - (at + 1) < length (all_keys facts names d) - at
  fewer_left start now at keys members w distinct lt = let b = at_most facts names world d keys distinct w.read in omega (arith, b, lt)

  -- a walk whose next place is past the last key is at its end
  pub at_end : (start now : Record) (at : ℕ) (keys : List Key) (members : List FragmentFact) → IsWalked facts d start at keys members now → (at < length keys → ⊥) → IsWalked facts d start (length keys) keys members now
  at_end start now at keys members w past = subst (λ n. IsWalked facts d start n keys members now) (same at (length keys) w.within past) w where
    same : (i n : ℕ) → i ≤ n → (i < n → ⊥) → i ≡ n
    same i n le no' = omega (arith, le, no')
