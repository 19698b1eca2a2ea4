-- Where the place of an item is in a list in order.
use Rattle.std.proofs.Common.{◌≡◌, inl, inr, ℕ, zero, suc, ◌≤◌, ◌+◌, List, [], ◌∷◌, ◌++◌, append_assoc, cond, take, drop, length, get_or, refl, ap, sym, subst, ◌∙◌, arith, Bool}
use Rattle.std.specs.Cmp.{IsTotalOrder}
use Rattle.std.specs.List.{AllWithin}
use Rattle.std.specs.List.Sorted.{IsBinarySearchResult, IsNonDecreasingBy, IsSearchInRange}
use Rattle.std.specs.Ordering.{is_gt, is_lt, ordering_index}
use Rattle.std.specs.Prelude.{Result, Ok, Err}
use Rattle.std.specs.declared.cmp.Ordering.{Ordering}
use Rattle.std.specs.declared.cmp.Ordering.TheVariants.{Less, Equal, Greater}
use Rattle.gql_chunks.specs.Edits.{above, below, edited, one_if}
use Rattle.gql_chunks.specs.Lists.{AreInOrder}
use Rattle.gql_chunks.proofs.Members.{same_or_less, turned, turned_less}

module _ {A : Type 0} (order : A → A → Ordering) (k : A) where
  -- from the first index to the second are the items at the place of one
  pub record IsSplit (xs : List A) (from to : ℕ) : Type 0 where
    pub ordered : from ≤ to
    pub within : to ≤ length xs
    pub under : below order k xs ≡ take from xs
    pub over : above order k xs ≡ drop to xs

  first_below : (x : A) (xs : List A) (a b : ℕ) → order x k ≡ Less → IsSplit xs a b → IsSplit (x ∷ xs) (suc a) (suc b)
  first_below x xs a b e s = record {
    ordered = omega (arith, s.ordered);
    within = omega (arith, s.within);
    under = ap (λ (o : Ordering). cond (is_lt o) (x ∷ below order k xs) (below order k xs)) e ∙ ap (λ zs. x ∷ zs) s.under;
    over = ap (λ (o : Ordering). cond (is_gt o) (x ∷ above order k xs) (above order k xs)) e ∙ s.over;
  }

  first_here : (x : A) (xs : List A) (b : ℕ) → order x k ≡ Equal → IsSplit xs 0 b → IsSplit (x ∷ xs) 0 (suc b)
  first_here x xs b e s = record {
    ordered = omega arith;
    within = omega (arith, s.within);
    under = ap (λ (o : Ordering). cond (is_lt o) (x ∷ below order k xs) (below order k xs)) e ∙ s.under;
    over = ap (λ (o : Ordering). cond (is_gt o) (x ∷ above order k xs) (above order k xs)) e ∙ s.over;
  }

  first_above : (x : A) (xs : List A) → order x k ≡ Greater → IsSplit xs 0 0 → IsSplit (x ∷ xs) 0 0
  first_above x xs e s = record {
    ordered = omega arith;
    within = omega arith;
    under = ap (λ (o : Ordering). cond (is_lt o) (x ∷ below order k xs) (below order k xs)) e ∙ s.under;
    over = ap (λ (o : Ordering). cond (is_gt o) (x ∷ above order k xs) (above order k xs)) e ∙ ap (λ zs. x ∷ zs) s.over;
  }

  rest_within : (P : A → Type 0) (x : A) (xs : List A) (a b : ℕ) → AllWithin P (x ∷ xs) (suc a) (suc b) → AllWithin P xs a b
  rest_within P x xs a b all j d la lb = all (suc j) d (omega (arith, la)) (omega (arith, lb))

  from_zero : (P : A → Type 0) (x : A) (xs : List A) (b : ℕ) → AllWithin P (x ∷ xs) 0 (suc b) → AllWithin P xs 0 b
  from_zero P x xs b all j d la lb = all (suc j) d (omega arith) (omega (arith, lb))

  parts : (xs : List A) (a b : ℕ) → a ≤ b → b ≤ length xs → AllWithin (λ x. order x k ≡ Less) xs 0 a → AllWithin (λ x. order x k ≡ Equal) xs a b
      → AllWithin (λ x. order x k ≡ Greater) xs b (length xs) → IsSplit xs a b
  parts [] zero zero ab bl less same more = record { ordered = omega arith; within = omega arith; under = refl; over = refl }
  parts [] zero (suc b) ab bl less same more = absurd (omega (arith, bl))
  parts [] (suc a) b ab bl less same more = absurd (omega (arith, ab, bl))
  parts (x ∷ xs) zero zero ab bl less same more = first_above x xs (more 0 x (omega arith) (omega arith))
      (parts xs 0 0 (omega arith) (omega arith) (λ j d la lb. absurd (omega (arith, lb))) (λ j d la lb. absurd (omega (arith, lb))) (from_zero (λ y. order y k ≡ Greater) x xs (length xs) more))
  parts (x ∷ xs) zero (suc b) ab bl less same more = first_here x xs b (same 0 x (omega arith) (omega arith))
      (parts xs 0 b (omega arith) (omega (arith, bl)) (λ j d la lb. absurd (omega (arith, lb))) (from_zero (λ y. order y k ≡ Equal) x xs b same) (rest_within (λ y. order y k ≡ Greater) x xs b (length xs) more))
  parts (x ∷ xs) (suc a) zero ab bl less same more = absurd (omega (arith, ab))
  parts (x ∷ xs) (suc a) (suc b) ab bl less same more = first_below x xs a b (less 0 x (omega arith) (omega arith))
      (parts xs a b (omega (arith, ab)) (omega (arith, bl)) (from_zero (λ y. order y k ≡ Less) x xs a less) (rest_within (λ y. order y k ≡ Equal) x xs a b same) (rest_within (λ y. order y k ≡ Greater) x xs b (length xs) more))

-- where the place of an item is, by what the search answers
abbrev pub from_of : Result ℕ ℕ → ℕ
from_of (Ok i) = i
from_of (Err i) = i

abbrev pub to_of : Result ℕ ℕ → ℕ
to_of (Ok i) = i + 1
to_of (Err i) = i

-- a list in order can be searched for what rises along with it
pub searchable : {A : Type 0} (order : A → A → Ordering) (of : A → Ordering) → ((x y : A) → order x y ≡ Less → ordering_index (of x) ≤ ordering_index (of y)) → (xs : List A) → AreInOrder order xs → IsNonDecreasingBy (λ x. ordering_index (of x)) xs
searchable order of rises xs up i j d le within = elim (same_or_less i j le) [
  | inl e ↦ subst (λ n. ordering_index (of (get_or xs i d)) ≤ ordering_index (of (get_or xs n d))) e (omega arith)
  | inr l ↦ rises (get_or xs i d) (get_or xs j d) (up i j d l within)
]

module _ {A : Type 0} (order : A → A → Ordering) (total : IsTotalOrder order) where
  -- a list in order can be searched by the order to an item
  index_rises : (o p : Ordering) (x y k : A) → order x k ≡ o → order y k ≡ p → order x y ≡ Less → ordering_index o ≤ ordering_index p
  index_rises Less p x y k e f lt = omega arith
  index_rises Equal Less x y k e f lt = absurd (
      let s : order k y ≡ Less = sym (total.congr x k y e) ∙ lt in
      let t : Greater ≡ Less = sym (turned_less order total y k f) ∙ s in
      cc t
      )
  index_rises Equal Equal x y k e f lt = omega arith
  index_rises Equal Greater x y k e f lt = omega arith
  index_rises Greater Less x y k e f lt = absurd (
      let t : order x k ≡ Less = total.trans x y k lt f in
      let u : Greater ≡ Less = sym e ∙ t in
      cc u
      )
  index_rises Greater Equal x y k e f lt = absurd (
      let s : order y x ≡ Less = total.congr y k x f ∙ turned order total x k e in
      let t : Greater ≡ Less = sym (turned_less order total x y lt) ∙ s in
      cc t
      )
  index_rises Greater Greater x y k e f lt = omega arith

  pub rises_to : (k x y : A) → order x y ≡ Less → ordering_index (order x k) ≤ ordering_index (order y k)
  rises_to k x y lt = index_rises (order x k) (order y k) x y k refl refl lt

  pub split_at : (k : A) (xs : List A) (r : Result ℕ ℕ) → AreInOrder order xs → IsSearchInRange r (length xs) → IsBinarySearchResult (λ x. order x k) xs r → IsSplit order k xs (from_of r) (to_of r)
  split_at k xs (Ok i) up within found = parts order k xs i (i + 1) (omega arith) (omega (arith, within))
      (λ j d la lb. turned order total k (get_or xs j d) (sym (total.congr (get_or xs i d) k (get_or xs j d) (found d)) ∙ turned_less order total (get_or xs j d) (get_or xs i d) (up j i d lb within)))
      (λ j d la lb. let e : i ≡ j = omega (arith, la, lb) in subst (λ n. order (get_or xs n d) k ≡ Equal) e (found d))
      (λ j d la lb. turned_less order total k (get_or xs j d) (sym (total.congr (get_or xs i d) k (get_or xs j d) (found d)) ∙ up i j d (omega (arith, la)) lb))
  split_at k xs (Err i) up within found =
      let p = found (searchable order (λ x. order x k) (rises_to k) xs up) in
      parts order k xs i i (omega arith) within p.0 (λ j d la lb. absurd (omega (arith, la, lb))) p.1

-- one change more
pub edited_more : {A : Type 0} (order : A → A → Ordering) (comes : Bool) (out rest before after : List A) (c : A) (cs ds : List A)
    → ds ≡ c ∷ cs → before ≡ below order c rest → after ≡ above order c rest
    → ((out ++ before) ++ one_if comes c) ++ edited order comes after cs ≡ out ++ edited order comes rest ds
edited_more order comes out rest before after c cs ds e b a = rw (e, b, a)
    (append_assoc (out ++ below order c rest) (one_if comes c) (edited order comes (above order c rest) cs)
    ∙ append_assoc out (below order c rest) (one_if comes c ++ edited order comes (above order c rest) cs))
