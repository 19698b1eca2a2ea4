-- Counts of equal keys, and places in a list.
use Rattle.std.proofs.Common.{◌≡◌, ℕ, zero, suc, ◌+◌, ◌-◌, ◌<◌, List, [], ◌∷◌, ◌++◌, length, take, get_or, refl, sym, ap, subst, ◌∙◌, arith, Bool, true, false, cond, Option, Some, map}
use Rattle.std.specs.Prelude.{count_by, fold, unwrap_or, nat_le, nat_lt, not, ◌&&◌, ◌||◌}
use Rattle.std.specs.List.{list_any}
use Rattle.std.proofs.lemmas.Bool.Decides.{nat_tests}
use Rattle.std.proofs.lemmas.List.{take_more}
use Rattle.std.proofs.lemmas.List.Folds.{list_any-append}
use Rattle.std.proofs.lemmas.List.Sums.{count_by_more_yes, count_by_more_no}
use Rattle.gql_findings.specs.Comparing.{places_from, count_of, unpaired}
use Rattle.gql_findings.specs.Keys.{mark_of, marks_of, same_key}
use Rattle.gql_findings.specs.Marks.{same_mark}
use Rattle.gql_findings.specs.SameMarks.{same_mark_equiv, same_mark_equal}
use Rattle.gql_findings.specs.declared.marks.Key.{Key}

-- the key that takes the place of those past the end of a list
abbrev pub blank : Key
blank = record {
  kind = 0;
  rule = record { ref_ptr = (0, 0); now = [] };
  about = record { ref_ptr = (0, 0); now = [] };
  first = record { ref_ptr = (0, 0); now = [] };
  second = record { ref_ptr = (0, 0); now = [] };
  owner = record { ref_ptr = (0, 0); now = [] };
}

-- a key that has as many equals before it as there are among the others
abbrev pub is_alone : List Key → List Key → ℕ → Key → Bool
is_alone keys others i k = nat_le (count_by (same_key k) others) (count_by (same_key k) (take i keys))

flipped : (k q : Key) (t : Bool) → same_key k q ≡ t → same_key q k ≡ t
flipped k q t e = same_mark_equiv.symm (mark_of q) (mark_of k) ∙ e

-- equal keys are in a list equally often
as_often : (k q : Key) (keys : List Key) → same_key k q ≡ true → count_by (same_key k) keys ≡ count_by (same_key q) keys
as_often k q keys e = ap (λ m. count_by (λ b. same_mark m (mark_of b)) keys) (same_mark_equal (mark_of k) (mark_of q) e)

-- one key more is counted
pub count_more : (q k : Key) (keys : List Key) (i : ℕ) (d : Key) → i < length keys → k ≡ get_or keys i d → (t : Bool) → same_key k q ≡ t
    → count_by (same_key q) (take (i + 1) keys) ≡ count_by (same_key q) (take i keys) + cond t 1 0
count_more q k keys i d lt is true e = count_by_more_yes (same_key q) keys i d lt (subst (λ x. same_key q x ≡ true) is (flipped k q true e))
count_more q k keys i d lt is false e = count_by_more_no (same_key q) keys i d lt (subst (λ x. same_key q x ≡ false) is (flipped k q false e)) ∙ omega arith

-- the count of each key after one is put in
pub counted : (q k : Key) (keys : List Key) (i : ℕ) (d : Key) → i < length keys → k ≡ get_or keys i d → (old new : Option ℕ) (count : ℕ) → unwrap_or old 0 ≡ count_by (same_key q) (take i keys)
    → count ≡ count_by (same_key k) (take i keys) → (t : Bool) → same_key k q ≡ t → new ≡ cond t (Some (count + 1)) old → unwrap_or new 0 ≡ count_by (same_key q) (take (i + 1) keys)
counted q k keys i d lt is old new count h n true e u = ap (λ o. unwrap_or o 0) u ∙ ap (λ m. m + 1) (n ∙ as_often k q (take i keys) e) ∙ sym (count_more q k keys i d lt is true e)
counted q k keys i d lt is old new count h n false e u = ap (λ o. unwrap_or o 0) u ∙ h ∙ omega (arith, count_more q k keys i d lt is false e)

-- one of the key's count is taken
pub taken : (q k : Key) (old_q old_k new : Option ℕ) (count : ℕ) → (same_key k q ≡ true → old_k ≡ old_q) → count ≡ unwrap_or old_k 0 → (t : Bool) → same_key k q ≡ t
    → new ≡ cond t (Some (count - 1)) old_q → unwrap_or new 0 ≡ unwrap_or old_q 0 - cond t 1 0
taken q k old_q old_k new count same n true e u = ap (λ o. unwrap_or o 0) u ∙ ap (λ m. m - 1) (n ∙ ap (λ o. unwrap_or o 0) (same e))
taken q k old_q old_k new count same n false e u = ap (λ o. unwrap_or o 0) u ∙ omega arith

-- what is left of each count
pub left_more : (q k : Key) (keys : List Key) (i : ℕ) (d : Key) → i < length keys → k ≡ get_or keys i d → (all old new : ℕ) → old ≡ all - count_by (same_key q) (take i keys)
    → (t : Bool) → same_key k q ≡ t → new ≡ old - cond t 1 0 → new ≡ all - count_by (same_key q) (take (i + 1) keys)
left_more q k keys i d lt is all old new h true e u = omega (arith, count_more q k keys i d lt is true e)
left_more q k keys i d lt is all old new h false e u = omega (arith, count_more q k keys i d lt is false e)

-- nothing is left of a count that was taken as often
pub none_left : (all before left : ℕ) (was : Bool) → left ≡ all - before → was ≡ nat_lt 0 left → not was ≡ nat_le all before
none_left all before left was h w = grind (arith, nat_tests)

in_front : (b : Bool) (n : ℕ) (ys zs : List ℕ) → cond b (n ∷ (ys ++ zs)) (ys ++ zs) ≡ cond b (n ∷ ys) ys ++ zs
in_front true n ys zs = refl
in_front false n ys zs = refl

-- one place more
pub places_more : {A : Type 0} (n : ℕ) (test : ℕ → A → Bool) (xs : List A) (i : ℕ) (d : A) → i < length xs
    → places_from n test (take (i + 1) xs) ≡ places_from n test (take i xs) ++ cond (test (n + i) (get_or xs i d)) ((n + i) ∷ []) []
places_more n test [] i d lt = absurd (omega arith)
places_more n test (x ∷ xs) zero d lt = let e : n ≡ n + 0 = omega arith in ap (λ k. cond (test k x) (k ∷ []) []) e
places_more {A} n test (x ∷ xs) (suc i) d lt =
    let less : i < length xs = omega arith in
    let e : suc i + 1 ≡ suc (i + 1) = omega arith in
    let f : suc n + i ≡ n + suc i = omega arith in
    let more = places_more (suc n) test xs i d less ∙ ap (λ k. places_from (suc n) test (take i xs) ++ cond (test k (get_or xs i d)) (k ∷ []) []) f in
    ap (λ k. places_from n test (take k (x ∷ xs))) e ∙ ap (λ ys. cond (test n x) (n ∷ ys) ys) more
    ∙ in_front (test n x) n (places_from (suc n) test (take i xs)) (cond (test (n + suc i) (get_or xs i d)) ((n + suc i) ∷ []) [])

-- tests that agree hold at the same places
pub places_same : {A : Type 0} (n : ℕ) (test other : ℕ → A → Bool) (xs : List A) → ((i : ℕ) (x : A) → test i x ≡ other i x) → places_from n test xs ≡ places_from n other xs
places_same n test other [] h = refl
places_same n test other (x ∷ xs) h = ap (λ b. cond b (n ∷ places_from (suc n) test xs) (places_from (suc n) test xs)) (h n x) ∙ ap (λ ys. cond (other n x) (n ∷ ys) ys) (places_same (suc n) test other xs h)

pub places-map : {A B : Type 0} (n : ℕ) (f : A → B) (test : ℕ → B → Bool) (xs : List A) → places_from n test (map f xs) ≡ places_from n (λ i x. test i (f x)) xs
places-map n f test [] = refl
places-map n f test (x ∷ xs) = ap (λ ys. cond (test n (f x)) (n ∷ ys) ys) (places-map (suc n) f test xs)

fold-map : {A B : Type 0} (f : A → B) (g : ℕ → B → ℕ) (n : ℕ) (xs : List A) → fold g n (map f xs) ≡ fold (λ m x. g m (f x)) n xs
fold-map f g n [] = refl
fold-map f g n (x ∷ xs) = fold-map f g (g n (f x)) xs

pub count_by-map : {A B : Type 0} (f : A → B) (p : B → Bool) (xs : List A) → count_by p (map f xs) ≡ count_by (λ x. p (f x)) xs
count_by-map f p xs = fold-map f (λ n b. n + cond (p b) 1 0) 0 xs

pub list_any-map : {A B : Type 0} (f : A → B) (p : B → Bool) (xs : List A) → list_any p (map f xs) ≡ list_any (λ x. p (f x)) xs
list_any-map f p [] = refl
list_any-map f p (x ∷ xs) = ap (λ b. p (f x) || b) (list_any-map f p xs)

take-map : {A B : Type 0} (f : A → B) (n : ℕ) (xs : List A) → take n (map f xs) ≡ map f (take n xs)
take-map f zero xs = refl
take-map f (suc n) [] = refl
take-map f (suc n) (x ∷ xs) = ap (λ ys. f x ∷ ys) (take-map f n xs)

-- the keys that are alone are the marks that have no partner
pub alone_are_unpaired : (keys others : List Key) → places_from 0 (is_alone keys others) keys ≡ unpaired (marks_of keys) (marks_of others)
alone_are_unpaired keys others =
    sym (places-map 0 mark_of (λ i m. nat_le (count_of m (marks_of others)) (count_of m (take i (marks_of keys)))) keys
    ∙ places_same 0 (λ i k. nat_le (count_of (mark_of k) (marks_of others)) (count_of (mark_of k) (take i (marks_of keys)))) (is_alone keys others) keys
    (λ i k. ap (λ n. nat_le n (count_of (mark_of k) (take i (marks_of keys)))) (count_by-map mark_of (same_mark (mark_of k)) others)
    ∙ ap (λ n. nat_le (count_by (same_key k) others) n) (ap (count_of (mark_of k)) (take-map mark_of i keys) ∙ count_by-map mark_of (same_mark (mark_of k)) (take i keys))))

-- one key more is in the set
pub has_more : (q k : Key) (keys : List Key) (i : ℕ) (d : Key) → i < length keys → k ≡ get_or keys i d → (old new : Bool) → old ≡ list_any (same_key q) (take i keys)
    → (t : Bool) → same_key k q ≡ t → new ≡ cond t true old → new ≡ list_any (same_key q) (take (i + 1) keys)
has_more q k keys i d lt is old new h t e u =
    let more : list_any (same_key q) (take (i + 1) keys) ≡ list_any (same_key q) (take i keys) || t =
    ap (list_any (same_key q)) (take_more keys i d lt) ∙ list_any-append (same_key q) (take i keys) (get_or keys i d ∷ [])
    ∙ ap (λ b. list_any (same_key q) (take i keys) || b) (last (same_key q (get_or keys i d)) ∙ ap (same_key q) (sym is) ∙ flipped k q t e) in
    u ∙ ap (λ b. cond t true b) h ∙ either t (list_any (same_key q) (take i keys)) ∙ sym more
  where
    last : (b : Bool) → b || false ≡ b
    last true = refl
    last false = refl

    either : (t b : Bool) → cond t true b ≡ b || t
    either true true = refl
    either true false = refl
    either false true = refl
    either false false = refl

-- a key that is among the operations and not among the affected ones
abbrev pub is_there : List Key → List Key → ℕ → Key → Bool
is_there operations affected i k = list_any (same_key k) operations && not (list_any (same_key k) affected)

pub there_are_served : (keys operations affected : List Key) → places_from 0 (is_there operations affected) keys
    ≡ places_from 0 (λ i mark. list_any (same_mark mark) (marks_of operations) && not (list_any (same_mark mark) (marks_of affected))) (marks_of keys)
there_are_served keys operations affected =
    sym (places-map 0 mark_of (λ i mark. list_any (same_mark mark) (marks_of operations) && not (list_any (same_mark mark) (marks_of affected))) keys
    ∙ places_same 0 (λ i k. list_any (same_mark (mark_of k)) (marks_of operations) && not (list_any (same_mark (mark_of k)) (marks_of affected))) (is_there operations affected) keys
    (λ i k. ap (λ b. b && not (list_any (same_mark (mark_of k)) (marks_of affected))) (list_any-map mark_of (same_mark (mark_of k)) operations)
    ∙ ap (λ b. list_any (same_key k) operations && not b) (list_any-map mark_of (same_mark (mark_of k)) affected)))

-- a place is added if the test holds there
pub place_added : {A : Type 0} (test : ℕ → A → Bool) (xs : List A) (i : ℕ) (d : A) (old new : List ℕ) (wanted : Bool) → i < length xs → old ≡ places_from 0 test (take i xs)
    → wanted ≡ test i (get_or xs i d) → new ≡ old ++ cond wanted (i ∷ []) [] → new ≡ places_from 0 test (take (i + 1) xs)
place_added test xs i d old new wanted lt h w n =
    let e : 0 + i ≡ i = omega arith in
    n ∙ ap (λ ys. ys ++ cond wanted (i ∷ []) []) h ∙ ap (λ b. places_from 0 test (take i xs) ++ cond b (i ∷ []) []) w
    ∙ ap (λ k. places_from 0 test (take i xs) ++ cond (test k (get_or xs i d)) (k ∷ []) []) (sym e) ∙ sym (places_more 0 test xs i d lt)
