-- Faults that are put to their causes one by one.
use Rattle.std.proofs.Common.{◌≡◌, ℕ, zero, suc, ◌+◌, ◌<◌, ◌≤◌, List, [], ◌∷◌, ◌++◌, length, get_or, refl, sym, ap, subst, ◌∙◌, arith, Bool, true, false, cond, Some, map, inl, inr}
use Rattle.std.specs.Prelude.{All, filter, slice_get, unwrap_or, option_map, not, ◌||◌}
use Rattle.std.specs.List.{list_any, position_or_len, prefix_len, IsDistinct, AllByRecursion}
use Rattle.std.specs.List.Sorted.{IsPermutation}
use Rattle.std.proofs.lemmas.List.Sorted.{All-permutation, list_any-IsPermutation}
use Rattle.std.proofs.lemmas.Map.Keys.{IsDistinct-tail, apart_from_distinct, IsDistinct-IsPermutation}
use Rattle.std.proofs.lemmas.Option.{slice_get_cases, slice_get-get_or, slice_get_past}
use Rattle.std.proofs.Math.ListN.{set}
use Rattle.std.proofs.Math.Seq.{map-set_same}
use Rattle.std.proofs.lemmas.List.Elements.{All-set, All-push}
use Rattle.indexmap.specs.IndexSet.{insert_key}
use Rattle.gql_text.proofs.Lines.{prefix_map}
use Rattle.std.proofs.lemmas.List.{append-nil, map-append, length-map, length-append}
use Rattle.gql_findings.specs.Causes.{mark_of_cause, has_cause, AreGrouped}
use Rattle.gql_findings.specs.Gathering.{members_at, Agree, HasMembers, Gathers}
use Rattle.gql_findings.specs.Keys.{mark_of, marks_of, same_key}
use Rattle.gql_findings.specs.Marks.{Mark, same_mark, cause_mark}
use Rattle.gql_findings.specs.SameMarks.{same_mark_equiv, same_mark_equal}
use Rattle.gql_findings.specs.declared.finding.Finding.{Finding}
use Rattle.gql_findings.specs.declared.grouping.Cause.{Cause}
use Rattle.gql_findings.specs.declared.marks.Key.{Key}

-- marks that are the same pass the same tests
congruent : (a b m : Mark) → same_mark a b ≡ true → same_mark m a ≡ same_mark m b
congruent a b m e = ap (same_mark m) (same_mark_equal a b e)

-- a mark that is the same as one of two that differ is not the same as the other
apart : (k c m : Mark) → same_mark k c ≡ false → same_mark m c ≡ true → same_mark m k ≡ false
apart k c m ne same = same_mark_equiv.symm m k ∙ ap (same_mark k) (same_mark_equal m c same) ∙ ne

-- one member more in the first cause
grown : (k m : Mark) (c new : Cause) (cs : List Cause) (i : ℕ) → same_mark k (mark_of_cause c) ≡ true → mark_of_cause new ≡ mark_of_cause c → new.members.items ≡ c.members.items ++ i ∷ []
    → members_at m (new ∷ cs) ≡ members_at m (c ∷ cs) ++ cond (same_mark m k) (i ∷ []) []
grown k m c new cs i same mark items = at (same_mark m k) refl
  where
    at : (t : Bool) → same_mark m k ≡ t → members_at m (new ∷ cs) ≡ members_at m (c ∷ cs) ++ cond t (i ∷ []) []
    at true e =
        let yes : same_mark m (mark_of_cause c) ≡ true = sym (congruent k (mark_of_cause c) m same) ∙ e in
        let now : same_mark m (mark_of_cause new) ≡ true = ap (same_mark m) mark ∙ yes in
        rw (yes, now) items
    at false e =
        let other : same_mark m (mark_of_cause c) ≡ false = sym (congruent k (mark_of_cause c) m same) ∙ e in
        let now : same_mark m (mark_of_cause new) ≡ false = ap (same_mark m) mark ∙ other in
        rw (other, now) (sym (append-nil (members_at m cs)))

-- a cause before the one that grows
passed : (k m : Mark) (c : Cause) (olds news : List Cause) (i : ℕ) → same_mark k (mark_of_cause c) ≡ false → members_at m news ≡ members_at m olds ++ cond (same_mark m k) (i ∷ []) []
    → members_at m (c ∷ news) ≡ members_at m (c ∷ olds) ++ cond (same_mark m k) (i ∷ []) []
passed k m c olds news i ne h = at (same_mark m (mark_of_cause c)) refl
  where
    at : (t : Bool) → same_mark m (mark_of_cause c) ≡ t → members_at m (c ∷ news) ≡ members_at m (c ∷ olds) ++ cond (same_mark m k) (i ∷ []) []
    at true e = let other : same_mark m k ≡ false = apart k (mark_of_cause c) m ne e in rw (e, other) (sym (append-nil c.members.items))
    at false e = rw e h

first_is : (t : Bool) (n : ℕ) → 0 ≡ cond (not t) (1 + n) 0 → t ≡ true
first_is true n e = refl
first_is false n e = absurd (omega arith)

later_is : (t : Bool) (p n : ℕ) → suc p ≡ cond (not t) (1 + n) 0 → (t ≡ false) × (p ≡ n)
later_is true p n e = absurd (omega arith)
later_is false p n e = (refl, omega arith)

past_is : (t : Bool) (l n : ℕ) → suc l ≤ cond (not t) (1 + n) 0 → (t ≡ false) × (l ≤ n)
past_is true l n e = absurd (omega arith)
past_is false l n e = (refl, omega arith)

-- the cause of a mark grows
pub found_at : (k m : Mark) (cs : List Cause) (p : ℕ) (new d : Cause) (i : ℕ) → p ≡ position_or_len (λ c. same_mark k (mark_of_cause c)) cs → p < length cs
    → mark_of_cause new ≡ mark_of_cause (get_or cs p d) → new.members.items ≡ (get_or cs p d).members.items ++ i ∷ [] → members_at m (set cs p new) ≡ members_at m cs ++ cond (same_mark m k) (i ∷ []) []
found_at k m [] p new d i e lt mark items = absurd (omega arith)
found_at k m (c ∷ cs) zero new d i e lt mark items = grown k m c new cs i (first_is (same_mark k (mark_of_cause c)) (position_or_len (λ c. same_mark k (mark_of_cause c)) cs) e) mark items
found_at k m (c ∷ cs) (suc p) new d i e lt mark items =
    let is = later_is (same_mark k (mark_of_cause c)) p (position_or_len (λ c. same_mark k (mark_of_cause c)) cs) e in
    passed k m c cs (set cs p new) i is.0 (found_at k m cs p new d i is.1 (omega arith) mark items)

-- a new cause comes last
pub pushed_last : (k m : Mark) (cs : List Cause) (new : Cause) (i : ℕ) → length cs ≤ position_or_len (λ c. same_mark k (mark_of_cause c)) cs
    → mark_of_cause new ≡ k → new.members.items ≡ i ∷ [] → members_at m (cs ++ new ∷ []) ≡ members_at m cs ++ cond (same_mark m k) (i ∷ []) []
pushed_last k m [] new i e mark items = ap (λ b. cond b new.members.items []) (ap (same_mark m) mark) ∙ ap (λ ys. cond (same_mark m k) ys []) items
pushed_last k m (c ∷ cs) new i e mark items =
    let is = past_is (same_mark k (mark_of_cause c)) (length cs) (position_or_len (λ c. same_mark k (mark_of_cause c)) cs) e in
    passed k m c cs (cs ++ new ∷ []) i is.0 (pushed_last k m cs new i is.1 mark items)

-- the place of a key is that of its cause
pub same_place : (k : Key) (keys : List Key) (causes : List Cause) → Agree keys causes → position_or_len (same_key k) keys ≡ position_or_len (λ c. same_mark (mark_of k) (mark_of_cause c)) causes
same_place k keys causes a =
    sym (prefix_map (λ m. not (same_mark (mark_of k) m)) mark_of keys) ∙ ap (prefix_len (λ m. not (same_mark (mark_of k) m))) a
    ∙ prefix_map (λ m. not (same_mark (mark_of k) m)) mark_of_cause causes

pub as_long : (keys : List Key) (causes : List Cause) → Agree keys causes → length keys ≡ length causes
as_long keys causes a = sym (length-map keys mark_of) ∙ ap length a ∙ length-map causes mark_of_cause

any_before : {A : Type 0} (p : A → Bool) (xs : List A) → position_or_len p xs < length xs → list_any p xs ≡ true
any_before p [] lt = absurd (omega arith)
any_before p (x ∷ xs) lt = at (p x) (position_or_len p xs) (any_before p xs) lt
  where
    at : (t : Bool) (n : ℕ) → (n < length xs → list_any p xs ≡ true) → cond (not t) (1 + n) 0 < suc (length xs) → t || list_any p xs ≡ true
    at true n h lt = refl
    at false n h lt = h (omega arith)

none_past : {A : Type 0} (p : A → Bool) (xs : List A) → length xs ≤ position_or_len p xs → list_any p xs ≡ false
none_past p [] le = refl
none_past p (x ∷ xs) le = let is = past_is (p x) (length xs) (position_or_len p xs) le in ap (λ b. b || list_any p xs) is.0 ∙ none_past p xs is.1

-- the keys stay where the cause is there
pub keys_stay : (k : Key) (keys : List Key) → position_or_len (same_key k) keys < length keys → insert_key same_key keys k ≡ keys
keys_stay k keys lt = ap (λ b. cond b keys (keys ++ k ∷ [])) (any_before (same_key k) keys lt)

-- a new key comes last
pub keys_grow : (k : Key) (keys : List Key) → length keys ≤ position_or_len (same_key k) keys → insert_key same_key keys k ≡ keys ++ k ∷ []
keys_grow k keys le = ap (λ b. cond b keys (keys ++ k ∷ [])) (none_past (same_key k) keys le)

-- the cause is there, and grows
pub gathers_old : (k : Key) (keys new_keys : List Key) (causes new : List Cause) (p i : ℕ) (grown d : Cause) → Agree keys causes → new_keys ≡ insert_key same_key keys k → IsDistinct same_key new_keys
    → p ≡ position_or_len (same_key k) keys → p < length causes → new ≡ set causes p grown → mark_of_cause grown ≡ mark_of_cause (get_or causes p d) → grown.members.items ≡ (get_or causes p d).members.items ++ i ∷ []
    → Gathers (λ m. same_mark m (mark_of k)) i keys new_keys causes new
gathers_old k keys new_keys causes new p i grown d a ks apart at lt n mark items =
    let place = at ∙ same_place k keys causes a in
    let short : position_or_len (same_key k) keys < length keys = omega (arith, at, as_long keys causes a) in
    record {
      members = λ m. ap (members_at m) n ∙ found_at (mark_of k) m causes p grown d i place lt mark items;
      agree = ap marks_of (ks ∙ keys_stay k keys short) ∙ a ∙ sym (ap (map mark_of_cause) n ∙ map-set_same mark_of_cause causes p grown d mark);
      distinct = λ h. apart;
      some = λ h. subst (All HasMembers) (sym n) (All-set HasMembers causes p grown (simp (items, length-append) (omega arith)) h);
    }

-- the cause is new
pub gathers_new : (k : Key) (keys new_keys : List Key) (causes new : List Cause) (p i : ℕ) (cause : Cause) → Agree keys causes → new_keys ≡ insert_key same_key keys k → IsDistinct same_key new_keys
    → p ≡ position_or_len (same_key k) keys → length causes ≤ p → new ≡ causes ++ cause ∷ [] → mark_of_cause cause ≡ mark_of k → cause.members.items ≡ i ∷ []
    → Gathers (λ m. same_mark m (mark_of k)) i keys new_keys causes new
gathers_new k keys new_keys causes new p i cause a ks apart at le n mark items =
    let past : length causes ≤ position_or_len (λ c. same_mark (mark_of k) (mark_of_cause c)) causes = omega (arith, at ∙ same_place k keys causes a) in
    let long : length keys ≤ position_or_len (same_key k) keys = omega (arith, at, as_long keys causes a) in
    record {
      members = λ m. ap (members_at m) n ∙ pushed_last (mark_of k) m causes cause i past mark items;
      agree = ap marks_of (ks ∙ keys_grow k keys long) ∙ map-append mark_of keys (k ∷ []) ∙ ap (λ ms. ms ++ mark_of k ∷ []) a ∙ ap (λ m. map mark_of_cause causes ++ m ∷ []) (sym mark)
          ∙ sym (ap (map mark_of_cause) n ∙ map-append mark_of_cause causes (cause ∷ []));
      distinct = λ h. apart;
      some = λ h. subst (All HasMembers) (sym n) (All-push HasMembers causes cause h (subst (λ xs. 0 < length xs) (sym items) (omega arith)));
    }

-- nothing is put
pub gathers_none : (test : Mark → Bool) (i : ℕ) (keys : List Key) (causes : List Cause) → Agree keys causes → ((m : Mark) → test m ≡ false) → Gathers test i keys keys causes causes
gathers_none test i keys causes a ne = record {
  members = λ m. sym (append-nil (members_at m causes)) ∙ ap (λ b. members_at m causes ++ cond b (i ∷ []) []) (sym (ne m));
  agree = a;
  distinct = λ h. h;
  some = λ h. h;
}

all_map : {A B : Type 0} (f : A → B) (P : B → Type 0) (xs : List A) → AllByRecursion (λ x. P (f x)) xs → AllByRecursion P (map f xs)
all_map f P [] h = h
all_map f P (x ∷ xs) h = (h.0, all_map f P xs h.1)

all_unmap : {A B : Type 0} (f : A → B) (P : B → Type 0) (xs : List A) → AllByRecursion P (map f xs) → AllByRecursion (λ x. P (f x)) xs
all_unmap f P [] h = h
all_unmap f P (x ∷ xs) h = (h.0, all_unmap f P xs h.1)

distinct_map : {A B : Type 0} (f : A → B) (e : B → B → Bool) (xs : List A) → IsDistinct (λ a b. e (f a) (f b)) xs → IsDistinct e (map f xs)
unfolding IsDistinct
distinct_map f e [] h = h
distinct_map f e (x ∷ xs) h = (all_map f (λ y. e (f x) y ≡ false) xs h.0, distinct_map f e xs h.1)

distinct_unmap : {A B : Type 0} (f : A → B) (e : B → B → Bool) (xs : List A) → IsDistinct e (map f xs) → IsDistinct (λ a b. e (f a) (f b)) xs
unfolding IsDistinct
distinct_unmap f e [] h = h
distinct_unmap f e (x ∷ xs) h = (all_unmap f (λ y. e (f x) y ≡ false) xs h.0, distinct_unmap f e xs h.1)

-- whether two causes are the same
abbrev pub same_cause : Cause → Cause → Bool
same_cause a b = same_mark (mark_of_cause a) (mark_of_cause b)

-- no two causes are the same, where no two keys are
distinct_causes : (keys : List Key) (causes : List Cause) → Agree keys causes → IsDistinct same_key keys → IsDistinct same_cause causes
distinct_causes keys causes a h = distinct_unmap mark_of_cause same_mark causes (subst (IsDistinct same_mark) a (distinct_map mark_of same_mark keys h))

-- the members at the mark of a cause are its own
own_members : (cs : List Cause) (k : ℕ) (d : Cause) → IsDistinct same_cause cs → k < length cs → members_at (mark_of_cause (get_or cs k d)) cs ≡ (get_or cs k d).members.items
own_members [] k d h lt = absurd (omega arith)
own_members (c ∷ cs) zero d h lt = ap (λ b. cond b c.members.items (members_at (mark_of_cause c) cs)) (same_mark_equiv.refl (mark_of_cause c))
own_members (c ∷ cs) (suc k) d h lt =
    let it = get_or cs k d in
    let other : same_mark (mark_of_cause it) (mark_of_cause c) ≡ false = same_mark_equiv.symm (mark_of_cause it) (mark_of_cause c) ∙ apart_from_distinct same_cause (c ∷ cs) 0 (suc k) d h (omega arith) lt in
    ap (λ b. cond b c.members.items (members_at (mark_of_cause it) cs)) other ∙ own_members cs k d (IsDistinct-tail same_cause c cs h) (omega arith)

filter_some : (p : ℕ → Bool) (xs : List ℕ) (j d : ℕ) → j < length xs → p (get_or xs j d) ≡ true → 0 < length (filter p xs)
filter_some p [] j d lt e = absurd (omega arith)
filter_some p (x ∷ xs) zero d lt e = rw e (omega arith)
filter_some p (x ∷ xs) (suc j) d lt e = at (p x) (filter_some p xs j d (omega arith) e)
  where
    at : (t : Bool) → 0 < length (filter p xs) → 0 < length (cond t (x ∷ filter p xs) (filter p xs))
    at true h = omega arith
    at false h = h

-- a mark that has members is that of a cause
any_at : (m : Mark) (cs : List Cause) → 0 < length (members_at m cs) → list_any (λ c. same_mark m (mark_of_cause c)) cs ≡ true
any_at m [] h = absurd (omega arith)
any_at m (c ∷ cs) h = at (same_mark m (mark_of_cause c)) h (any_at m cs)
  where
    at : (t : Bool) → 0 < length (cond t c.members.items (members_at m cs)) → (0 < length (members_at m cs) → list_any (λ c. same_mark m (mark_of_cause c)) cs ≡ true)
        → t || list_any (λ c. same_mark m (mark_of_cause c)) cs ≡ true
    at true h next = refl
    at false h next = next h

any_same : {A : Type 0} (p q : A → Bool) (xs : List A) → ((x : A) → p x ≡ q x) → list_any p xs ≡ list_any q xs
any_same p q [] h = refl
any_same p q (x ∷ xs) h = ap (λ b. b || list_any p xs) (h x) ∙ ap (λ b. q x || b) (any_same p q xs h)

-- each fault has one of the causes
each_has : (findings : List Finding) (which : List ℕ) (causes : List Cause) → ((m : Mark) → filter (has_cause findings m) which ≡ members_at m causes) → (j d : ℕ) → j < length which
    → (f : Finding) → slice_get findings (get_or which j d) ≡ Some f → list_any (λ c. has_cause findings (mark_of_cause c) (get_or which j d)) causes ≡ true
each_has findings which causes h j d lt f e =
    let i = get_or which j d in
    let m = cause_mark f in
    let of_mark : (x : Mark) → has_cause findings x i ≡ same_mark x m = λ x. ap (λ o. unwrap_or (option_map (λ g. same_mark x (cause_mark g)) o) false) e in
    let some : 0 < length (members_at m causes) = subst (λ xs. 0 < length xs) (h m) (filter_some (has_cause findings m) which j d lt (of_mark m ∙ same_mark_equiv.refl m)) in
    any_same (λ c. has_cause findings (mark_of_cause c) i) (λ c. same_mark m (mark_of_cause c)) causes (λ c. of_mark (mark_of_cause c) ∙ same_mark_equiv.symm (mark_of_cause c) m) ∙ any_at m causes some

-- the causes of all faults
pub grouped : (findings : List Finding) (which : List ℕ) (keys : List Key) (causes : List Cause) → Agree keys causes → IsDistinct same_key keys → ((m : Mark) → filter (has_cause findings m) which ≡ members_at m causes)
    → All HasMembers causes → AreGrouped findings which causes
grouped findings which keys causes a apart h some =
    let once = distinct_causes keys causes a apart in
    record {
      members = λ k d lt. sym (h (mark_of_cause (get_or causes k d)) ∙ own_members causes k d once lt);
      some = some;
      each = λ j d lt within. elim (slice_get_cases findings (get_or which j d)).1 [
        | inl w ↦ each_has findings which causes h j d lt w.0 w.2
        | inr w ↦ absurd (omega (arith, w.0))
      ];
      once = once;
    }

-- causes in another order
pub reordered : (findings : List Finding) (which : List ℕ) (causes new : List Cause) → IsPermutation causes new → AreGrouped findings which causes → AreGrouped findings which new
reordered findings which causes new moved h = record {
  members = All-permutation (λ c. c.members.items ≡ filter (has_cause findings (mark_of_cause c)) which) causes new moved h.members;
  some = All-permutation HasMembers causes new moved h.some;
  each = λ j d lt within. sym (list_any-IsPermutation (λ c. has_cause findings (mark_of_cause c) (get_or which j d)) causes new moved) ∙ h.each j d lt within;
  once = IsDistinct-IsPermutation same_cause (λ x y. same_mark_equiv.symm (mark_of_cause x) (mark_of_cause y)) causes new moved h.once;
}

-- tests that agree put a member alike
pub gathers_same : (test other : Mark → Bool) (i : ℕ) (keys new_keys : List Key) (causes new : List Cause) → ((m : Mark) → test m ≡ other m) → Gathers test i keys new_keys causes new → Gathers other i keys new_keys causes new
gathers_same test other i keys new_keys causes new same h = record {
  members = λ m. h.members m ∙ ap (λ b. members_at m causes ++ cond b (i ∷ []) []) (same m);
  agree = h.agree;
  distinct = h.distinct;
  some = h.some;
}

-- a mark against the fault at a place
pub fault_there : (findings : List Finding) (i : ℕ) (f : Finding) (m : Mark) → i < length findings → f ≡ get_or findings i f → same_mark m (cause_mark f) ≡ has_cause findings m i
fault_there findings i f m lt is = sym (ap (λ o. unwrap_or (option_map (λ g. same_mark m (cause_mark g)) o) false) (slice_get-get_or findings i f lt ∙ ap Some (sym is)))

pub no_fault_there : (findings : List Finding) (i : ℕ) (m : Mark) → length findings ≤ i → has_cause findings m i ≡ false
no_fault_there findings i m le = ap (λ o. unwrap_or (option_map (λ g. same_mark m (cause_mark g)) o) false) (slice_get_past findings i le)

pub none_are_distinct : (keys : List Key) → keys ≡ [] → IsDistinct same_key keys
unfolding IsDistinct
none_are_distinct keys e = subst (IsDistinct same_key) (sym e) tt
