-- Where a place is in a list that is in order.
use Rattle.std.proofs.Common.{◌≡◌, ◌⊎◌, inl, inr, ℕ, zero, suc, ◌<◌, ◌≤◌, ◌+◌, List, [], ◌∷◌, ◌++◌, ◌-◌, append_assoc, cond, take, drop, length, get_or, refl, ap, sym, subst, ◌∙◌, arith, Bool}
use Rattle.std.specs.Cmp.{IsTotalOrder}
use Rattle.std.specs.List.{AllPairs, AllWithin}
use Rattle.std.specs.List.Sorted.{IsBinarySearchResult, IsNonDecreasingBy, IsSearchInRange}
use Rattle.std.specs.Ordering.{is_eq, is_gt, is_lt, ordering_index, ordering_reverse}
use Rattle.std.specs.Prelude.{Result, Ok, Err}
use Rattle.std.specs.declared.cmp.Ordering.{Ordering}
use Rattle.std.specs.declared.cmp.Ordering.TheVariants.{Less, Equal, Greater}
use Rattle.std.proofs.lemmas.List.{length-drop}
use Rattle.std.proofs.Math.Seq.{take-length}
use Rattle.gql_readers.specs.Merged.{IsSplit, above, below, here, merged}

module _ {A K : Type 0} (order : K → K → Ordering) (at : A → K) (k : K) where
  abbrev lt : A → Bool
  lt x = is_lt (order (at x) k)

  abbrev eq : A → Bool
  eq x = is_eq (order (at x) k)

  abbrev gt : A → Bool
  gt x = is_gt (order (at x) k)

  first_below : (x : A) (xs : List A) (a b : ℕ) → order (at x) k ≡ Less → IsSplit order at k xs a b → IsSplit order at k (x ∷ xs) (suc a) (suc b)
  first_below x xs a b e s = record {
    ordered = omega (arith, s.ordered);
    within = omega (arith, s.within);
    under = ap (λ (o : Ordering). cond (is_lt o) (x ∷ below order at k xs) (below order at k xs)) e ∙ ap (λ zs. x ∷ zs) s.under;
    among = ap (λ (o : Ordering). cond (is_eq o) (x ∷ here order at k xs) (here order at k xs)) e ∙ s.among;
    over = ap (λ (o : Ordering). cond (is_gt o) (x ∷ above order at k xs) (above order at k xs)) e ∙ s.over;
  }

  first_here : (x : A) (xs : List A) (b : ℕ) → order (at x) k ≡ Equal → IsSplit order at k xs 0 b → IsSplit order at k (x ∷ xs) 0 (suc b)
  first_here x xs b e s = record {
    ordered = omega arith;
    within = omega (arith, s.within);
    under = ap (λ (o : Ordering). cond (is_lt o) (x ∷ below order at k xs) (below order at k xs)) e ∙ s.under;
    among = ap (λ (o : Ordering). cond (is_eq o) (x ∷ here order at k xs) (here order at k xs)) e ∙ ap (λ zs. x ∷ zs) s.among;
    over = ap (λ (o : Ordering). cond (is_gt o) (x ∷ above order at k xs) (above order at k xs)) e ∙ s.over;
  }

  first_above : (x : A) (xs : List A) → order (at x) k ≡ Greater → IsSplit order at k xs 0 0 → IsSplit order at k (x ∷ xs) 0 0
  first_above x xs e s = record {
    ordered = omega arith;
    within = omega arith;
    under = ap (λ (o : Ordering). cond (is_lt o) (x ∷ below order at k xs) (below order at k xs)) e ∙ s.under;
    among = ap (λ (o : Ordering). cond (is_eq o) (x ∷ here order at k xs) (here order at k xs)) e ∙ s.among;
    over = ap (λ (o : Ordering). cond (is_gt o) (x ∷ above order at k xs) (above order at k xs)) e ∙ ap (λ zs. x ∷ zs) s.over;
  }

  rest_within : (P : A → Type 0) (x : A) (xs : List A) (a b : ℕ) → AllWithin P (x ∷ xs) (suc a) (suc b) → AllWithin P xs a b
  rest_within P x xs a b all j d la lb = all (suc j) d (omega (arith, la)) (omega (arith, lb))

  from_zero : (P : A → Type 0) (x : A) (xs : List A) (b : ℕ) → AllWithin P (x ∷ xs) 0 (suc b) → AllWithin P xs 0 b
  from_zero P x xs b all j d la lb = all (suc j) d (omega arith) (omega (arith, lb))

  parts : (xs : List A) (a b : ℕ) → a ≤ b → b ≤ length xs → AllWithin (λ x. order (at x) k ≡ Less) xs 0 a → AllWithin (λ x. order (at x) k ≡ Equal) xs a b
      → AllWithin (λ x. order (at x) k ≡ Greater) xs b (length xs) → IsSplit order at k xs a b
  parts [] zero zero ab bl less same more = record { ordered = omega arith; within = omega arith; under = refl; among = refl; over = refl }
  parts [] zero (suc b) ab bl less same more = absurd (omega (arith, bl))
  parts [] (suc a) b ab bl less same more = absurd (omega (arith, ab, bl))
  parts (x ∷ xs) zero zero ab bl less same more = first_above x xs (more 0 x (omega arith) (omega arith))
      (parts xs 0 0 (omega arith) (omega arith) (λ j d la lb. absurd (omega (arith, lb))) (λ j d la lb. absurd (omega (arith, lb))) (from_zero (λ y. order (at y) k ≡ Greater) x xs (length xs) more))
  parts (x ∷ xs) zero (suc b) ab bl less same more = first_here x xs b (same 0 x (omega arith) (omega arith))
      (parts xs 0 b (omega arith) (omega (arith, bl)) (λ j d la lb. absurd (omega (arith, lb))) (from_zero (λ y. order (at y) k ≡ Equal) x xs b same) (rest_within (λ y. order (at y) k ≡ Greater) x xs b (length xs) more))
  parts (x ∷ xs) (suc a) zero ab bl less same more = absurd (omega (arith, ab))
  parts (x ∷ xs) (suc a) (suc b) ab bl less same more = first_below x xs a b (less 0 x (omega arith) (omega arith))
      (parts xs a b (omega (arith, ab)) (omega (arith, bl)) (from_zero (λ y. order (at y) k ≡ Less) x xs a less) (rest_within (λ y. order (at y) k ≡ Equal) x xs a b same) (rest_within (λ y. order (at y) k ≡ Greater) x xs b (length xs) more))

module _ {A K : Type 0} (order : K → K → Ordering) (total : IsTotalOrder order) (exact : (a b : K) → order a b ≡ Equal → a ≡ b) (at : A → K) where
  abbrev Rising : List A → Type 0
  Rising xs = AllPairs (λ x y. order (at x) (at y) ≡ Less) xs

  -- what rises is searched by the order to a place
  index_rises : (o p : Ordering) (x y k : K) → order x k ≡ o → order y k ≡ p → order x y ≡ Less → ordering_index o ≤ ordering_index p
  index_rises Less p x y k e f lt = omega arith
  index_rises Equal Less x y k e f lt = absurd (
      let s : x ≡ k = exact x k e in
      let t : order y x ≡ Less = subst (λ z. order y z ≡ Less) (sym s) f in
      let u : Greater ≡ Less = sym (total.antisymm y x ∙ ap ordering_reverse lt) ∙ t in
      cc u
      )
  index_rises Equal Equal x y k e f lt = omega arith
  index_rises Equal Greater x y k e f lt = omega arith
  index_rises Greater Less x y k e f lt = absurd (
      let t : order x k ≡ Less = total.trans x y k lt f in
      let u : Greater ≡ Less = sym e ∙ t in
      cc u
      )
  index_rises Greater Equal x y k e f lt = absurd (
      let t : order x k ≡ Less = subst (λ z. order x z ≡ Less) (exact y k f) lt in
      let u : Greater ≡ Less = sym e ∙ t in
      cc u
      )
  index_rises Greater Greater x y k e f lt = omega arith

  same_or_less : (i j : ℕ) → i ≤ j → (i ≡ j) ⊎ (i < j)
  same_or_less zero zero l = inl refl
  same_or_less zero (suc j) l = inr (omega arith)
  same_or_less (suc i) zero l = absurd (omega (arith, l))
  same_or_less (suc i) (suc j) l = elim (same_or_less i j (omega (arith, l))) [ inl e ↦ inl (ap suc e) | inr m ↦ inr (omega (arith, m)) ]

  searchable : (k : K) (xs : List A) → Rising xs → IsNonDecreasingBy (λ x. ordering_index (order (at x) k)) xs
  searchable k xs up i j d le within = elim (same_or_less i j le) [
    | inl e ↦ subst (λ n. ordering_index (order (at (get_or xs i d)) k) ≤ ordering_index (order (at (get_or xs n d)) k)) e (omega arith)
    | inr l ↦ index_rises (order (at (get_or xs i d)) k) (order (at (get_or xs j d)) k) (at (get_or xs i d)) (at (get_or xs j d)) k refl refl (up i j d l within)
  ]

  -- where a place is, by what the search answers
  abbrev pub from_of : Result ℕ ℕ → ℕ
  from_of (Ok i) = i
  from_of (Err i) = i

  abbrev pub to_of : Result ℕ ℕ → ℕ
  to_of (Ok i) = i + 1
  to_of (Err i) = i

  pub split_at : (k : K) (xs : List A) (r : Result ℕ ℕ) → Rising xs → IsSearchInRange r (length xs) → IsBinarySearchResult (λ x. order (at x) k) xs r → IsSplit order at k xs (from_of r) (to_of r)
  split_at k xs (Ok i) up within found = parts order at k xs i (i + 1) (omega arith) (omega (arith, within))
      (λ j d la lb. subst (λ z. order (at (get_or xs j d)) z ≡ Less) (exact (at (get_or xs i d)) k (found d)) (up j i d lb within))
      (λ j d la lb. let e : i ≡ j = omega (arith, la, lb) in subst (λ n. order (at (get_or xs n d)) k ≡ Equal) e (found d))
      (λ j d la lb. total.antisymm (at (get_or xs j d)) k ∙ ap ordering_reverse (subst (λ z. order z (at (get_or xs j d)) ≡ Less) (exact (at (get_or xs i d)) k (found d)) (up i j d (omega (arith, la)) lb)))
  split_at k xs (Err i) up within found =
      let p = found (searchable k xs up) in
      parts order at k xs i i (omega arith) within p.0 (λ j d la lb. absurd (omega (arith, la, lb))) p.1

-- the rest of a list
pub rest_of : {A : Type 0} (xs : List A) (p : ℕ) → take (length xs - p) (drop p xs) ≡ drop p xs
rest_of xs p = ap (λ n. take n (drop p xs)) (sym (length-drop p xs)) ∙ take-length (drop p xs)

-- one change more
pub merged_more : {A C K : Type 0} (order : K → K → Ordering) (at : A → K) (of : C → K) (make : List A → C → List A) (out rest before after : List A) (make_now : List A) (c : C) (cs ds : List C)
    → ds ≡ c ∷ cs → before ≡ below order at (of c) rest → after ≡ above order at (of c) rest → make_now ≡ make (here order at (of c) rest) c
    → ((out ++ before) ++ make_now) ++ merged order at of make after cs ≡ out ++ merged order at of make rest ds
merged_more order at of make out rest before after make_now c cs ds e b a m = rw (e, b, a, m)
    (append_assoc (out ++ below order at (of c) rest) (make (here order at (of c) rest) c) (merged order at of make (above order at (of c) rest) cs)
    ∙ append_assoc out (below order at (of c) rest) (make (here order at (of c) rest) c ++ merged order at of make (above order at (of c) rest) cs))
