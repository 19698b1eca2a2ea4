-- A list in chunks is edited chunk by chunk.
use Rattle.std.proofs.Common.{◌≡◌, ◌≢◌, inl, inr, ℕ, zero, suc, List, [], ◌∷◌, ◌++◌, Bool, true, false, refl, ap, sym, subst, ◌∙◌, append_assoc, All, Contains, Option, Some, None, take, drop, length, arith}
use Rattle.std.specs.Cmp.{IsTotalOrder}
use Rattle.std.specs.List.{AllWithin, slice_get}
use Rattle.std.specs.List.Sorted.{IsPartitionPoint}
use Rattle.std.specs.Ordering.{is_gt, is_lt}
use Rattle.std.specs.declared.cmp.Ordering.{Ordering}
use Rattle.std.specs.declared.cmp.Ordering.TheVariants.{Less, Greater}
use Rattle.std.proofs.lemmas.List.Elements.{All-cons, All-contains, All-nil, All-tail, filter-append}
use Rattle.std.proofs.lemmas.List.{append-nil, take-append-drop}
use Rattle.gql_chunks.specs.Cuts.{IsCut}
use Rattle.gql_chunks.specs.Edits.{above, below, edited, one_if}
use Rattle.gql_chunks.specs.Lists.{AreInOrder, IsChunked, joined}
use Rattle.gql_chunks.proofs.Editing.{above_from}
use Rattle.gql_chunks.proofs.Members.{contains_cases, contains_here, contains_none, contains_there, filter_all, filter_none, less_is, less_then, pairs_across, pairs_first, pairs_head, pairs_second, turned_less}

-- what holds within a part of a list holds of the part
all_take : {A : Type 0} (P : A → Type 0) (xs : List A) (i : ℕ) → AllWithin P xs 0 i → All P (take i xs)
all_take P [] zero h = All-nil P
all_take P [] (suc i) h = All-nil P
all_take P (x ∷ xs) zero h = All-nil P
all_take P (x ∷ xs) (suc i) h = All-cons P x (take i xs) (h 0 x (omega arith) (omega arith)) (all_take P xs i (λ k d a b. h (suc k) d (omega arith) (omega (arith, b))))

all_drop : {A : Type 0} (P : A → Type 0) (xs : List A) (i : ℕ) → AllWithin P xs i (length xs) → All P (drop i xs)
all_drop P [] zero h = All-nil P
all_drop P [] (suc i) h = All-nil P
all_drop P (x ∷ xs) zero h = λ k d l. h k d (omega arith) l
all_drop P (x ∷ xs) (suc i) h = all_drop P xs i (λ k d a b. h (suc k) d (omega (arith, a)) (omega (arith, b)))

module _ {A : Type 0} (order : A → A → Ordering) (total : IsTotalOrder order) where
  abbrev Before : A → A → Type 0
  Before x y = order x y ≡ Less

  -- an item is before one, after one
  below_all : (o : A) (xs tail : List A) → ((x : A) → Contains xs x → order x o ≡ Less) → below order o (xs ++ tail) ≡ xs ++ below order o tail
  below_all o xs tail h = filter-append (λ x. is_lt (order x o)) xs tail ∙ ap (λ zs. zs ++ below order o tail) (filter_all (λ x. is_lt (order x o)) xs (λ x c. ap is_lt (h x c)))

  above_none : (o : A) (xs tail : List A) → ((x : A) → Contains xs x → order x o ≡ Less) → above order o (xs ++ tail) ≡ above order o tail
  above_none o xs tail h = filter-append (λ x. is_gt (order x o)) xs tail ∙ ap (λ zs. zs ++ above order o tail) (filter_none (λ x. is_gt (order x o)) xs (λ x c. ap is_gt (h x c)))

  below_none : (o : A) (xs tail : List A) → ((y : A) → Contains tail y → order y o ≡ Greater) → below order o (xs ++ tail) ≡ below order o xs
  below_none o xs tail h = filter-append (λ x. is_lt (order x o)) xs tail ∙ ap (λ zs. below order o xs ++ zs) (filter_none (λ x. is_lt (order x o)) tail (λ x c. ap is_lt (h x c))) ∙ append-nil (below order o xs)

  above_all : (o : A) (xs tail : List A) → ((y : A) → Contains tail y → order y o ≡ Greater) → above order o (xs ++ tail) ≡ above order o xs ++ tail
  above_all o xs tail h = filter-append (λ x. is_gt (order x o)) xs tail ∙ ap (λ zs. above order o xs ++ zs) (filter_all (λ x. is_gt (order x o)) tail (λ x c. ap is_gt (h x c)))

  -- two lists, and changes of the first before those of the second
  edited_append : (comes : Bool) (xs tail here later : List A) → ((x : A) → Contains xs x → (o : A) → Contains later o → order x o ≡ Less)
      → ((r : A) → Contains here r → (y : A) → Contains tail y → order y r ≡ Greater)
      → edited order comes (xs ++ tail) (here ++ later) ≡ edited order comes xs here ++ edited order comes tail later
  edited_append comes xs tail [] [] first second = refl
  edited_append comes xs tail [] (o ∷ os) first second =
      let h : (x : A) → Contains xs x → order x o ≡ Less = λ x c. first x c o (contains_here o os) in
      ap (λ zs. zs ++ (one_if comes o ++ edited order comes (above order o (xs ++ tail)) os)) (below_all o xs tail h)
      ∙ ap (λ zs. (xs ++ below order o tail) ++ (one_if comes o ++ edited order comes zs os)) (above_none o xs tail h)
      ∙ append_assoc xs (below order o tail) (one_if comes o ++ edited order comes (above order o tail) os)
  edited_append comes xs tail (r ∷ rs) later first second =
      let h : (y : A) → Contains tail y → order y r ≡ Greater = second r (contains_here r rs) in
      let one = one_if comes r in
      let more = edited order comes (above order r xs) rs in
      let last = edited order comes tail later in
      let next : edited order comes (above order r xs ++ tail) (rs ++ later) ≡ more ++ last = edited_append comes (above order r xs) tail rs later
      (λ x c. first x (above_from order total r xs x c).0) (λ s m. second s (contains_there s r rs m)) in
      ap (λ zs. zs ++ (one ++ edited order comes (above order r (xs ++ tail)) (rs ++ later))) (below_none r xs tail h)
      ∙ ap (λ zs. below order r xs ++ (one ++ edited order comes zs (rs ++ later))) (above_all r xs tail h)
      ∙ ap (λ zs. below order r xs ++ (one ++ zs)) next
      ∙ ap (λ zs. below order r xs ++ zs) (sym (append_assoc one more last))
      ∙ sym (append_assoc (below order r xs) (one ++ more) last)

  -- what changes is cut at the first item of the second list
  cut_edited : (comes : Bool) (xs tail rest here later : List A) → AreInOrder order (xs ++ tail) → IsCut order (slice_get tail 0) rest here later
      → edited order comes (xs ++ tail) rest ≡ edited order comes xs here ++ edited order comes tail later
  cut_edited comes xs [] rest here later up cut = sym (ap (λ zs. edited order comes (xs ++ []) zs) cut.whole) ∙ edited_append comes xs [] here later
      (λ x c o m. absurd (contains_none o (subst (λ zs. Contains zs o) (cut.none refl) m))) (λ r c y m. absurd (contains_none y m))
  cut_edited comes xs (n ∷ ns) rest here later up cut = sym (ap (λ zs. edited order comes (xs ++ n ∷ ns) zs) cut.whole) ∙ edited_append comes xs (n ∷ ns) here later
      (λ x c o m. less_then order total x n o (pairs_across Before xs (n ∷ ns) up x n c (contains_here n ns)) (cut.from n refl o m))
      (λ r c y m. let b = cut.before n refl r c in turned_less order total r y (elim (contains_cases y n ns m) [
        | inl e ↦ subst (λ z. order r z ≡ Less) (sym e) b
        | inr t ↦ total.trans r n y b (pairs_head Before n ns (pairs_second Before xs (n ∷ ns) up) y t)
      ]))

  pub chunk_edited : (comes : Bool) (out xs tail rest here later : List A) → AreInOrder order (xs ++ tail) → IsCut order (slice_get tail 0) rest here later
      → (out ++ edited order comes xs here) ++ edited order comes tail later ≡ out ++ edited order comes (xs ++ tail) rest
  chunk_edited comes out xs tail rest here later up cut = append_assoc out (edited order comes xs here) (edited order comes tail later) ∙ ap (λ zs. out ++ zs) (sym (cut_edited comes xs tail rest here later up cut))

  -- what is left of the changes is in order
  pub later_in_order : (next : Option A) (rest here later : List A) → AreInOrder order rest → IsCut order next rest here later → AreInOrder order later
  later_in_order next rest here later up cut = pairs_second Before here later (subst (λ zs. AreInOrder order zs) (sym cut.whole) up)

  -- chunks after the first are chunks too
  pub chunked_others : (c : List A) (cs : List (List A)) → IsChunked order (c ∷ cs) → IsChunked order cs
  chunked_others c cs chunked = record { full = All-tail (λ z. z ≢ []) c cs chunked.full; ordered = pairs_second Before c (joined cs) chunked.ordered }

  -- the first chunk is in order
  pub chunk_in_order : (c : List A) (cs : List (List A)) → IsChunked order (c ∷ cs) → AreInOrder order c
  chunk_in_order c cs chunked = pairs_first Before c (joined cs) chunked.ordered

  -- each chunk is in order
  pub chunk_at_in_order : (cs : List (List A)) (i : ℕ) (c : List A) → IsChunked order cs → slice_get cs i ≡ Some c → AreInOrder order c
  chunk_at_in_order [] i c chunked e = absurd (let t : None ≡ Some c = e in cc t)
  chunk_at_in_order (d ∷ cs) zero c chunked e = subst (λ zs. AreInOrder order zs) (let t : Some d ≡ Some c = e in cc t) (chunk_in_order d cs chunked)
  chunk_at_in_order (d ∷ cs) (suc i) c chunked e = chunk_at_in_order cs i c (chunked_others d cs chunked) e

  not_both : (o : Ordering) → o ≡ Less → is_lt o ≡ false → ⊥
  not_both o e f = let t : true ≡ false = sym (ap is_lt e) ∙ f in cc t

  same_some : (n m : A) → Some n ≡ Some m → n ≡ m
  same_some n m e = cc e

  -- a list in order is cut where its items are no longer before another
  pub cut_at : (n : A) (xs here later : List A) (i : ℕ) → IsPartitionPoint (λ x. is_lt (order x n) ≡ true) (λ x. is_lt (order x n) ≡ false) xs i
      → here ≡ take i xs → later ≡ drop i xs → IsCut order (Some n) xs here later
  cut_at n xs here later i point h l =
      let front = all_take (λ x. is_lt (order x n) ≡ true) xs i point.0 in
      let back = all_drop (λ x. is_lt (order x n) ≡ false) xs i point.1 in
      record {
        whole = ap (λ zs. zs ++ later) h ∙ ap (λ zs. take i xs ++ zs) l ∙ take-append-drop i xs;
        before = λ m e x c. subst (λ w. order x w ≡ Less) (same_some n m e) (less_is (order x n) (All-contains (λ z. is_lt (order z n) ≡ true) (take i xs) x front (subst (λ zs. Contains zs x) h c)));
        from = λ m e x c lt. not_both (order x n) (subst (λ w. order x w ≡ Less) (sym (same_some n m e)) lt) (All-contains (λ z. is_lt (order z n) ≡ false) (drop i xs) x back (subst (λ zs. Contains zs x) l c));
        none = λ e. absurd (let t : Some n ≡ None = e in cc t);
      }

  -- all is before, if there is no item to cut at
  pub cut_nowhere : (xs later : List A) → later ≡ [] → IsCut order None xs xs later
  cut_nowhere xs later e = record {
    whole = ap (λ zs. xs ++ zs) e ∙ append-nil xs;
    before = λ m q x c. absurd (let t : None ≡ Some m = q in cc t);
    from = λ m q x c. absurd (let t : None ≡ Some m = q in cc t);
    none = λ q. e;
  }
