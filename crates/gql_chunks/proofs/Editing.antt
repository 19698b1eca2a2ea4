-- What a list has after an edit, and that it is in order.
use Rattle.std.proofs.Common.{◌≡◌, ◌⊎◌, inl, inr, List, [], ◌∷◌, ◌++◌, Bool, true, false, refl, ap, sym, subst, ◌∙◌, Contains}
use Rattle.std.specs.Cmp.{IsTotalOrder}
use Rattle.std.specs.Ordering.{is_gt, is_lt}
use Rattle.std.specs.declared.cmp.Ordering.{Ordering}
use Rattle.std.specs.declared.cmp.Ordering.TheVariants.{Less, Equal, Greater}
use Rattle.std.proofs.lemmas.List.Elements.{Contains-append_left, Contains-append_right, Contains-append_cases}
use Rattle.std.proofs.lemmas.List.Kept.{AllPairs-filter}
use Rattle.gql_chunks.specs.Edits.{IsEdited, IsFree, above, below, edited, one_if}
use Rattle.gql_chunks.specs.Lists.{AreFull, AreInOrder, IsChunked, joined}
use Rattle.gql_chunks.proofs.Members.{by_order, contains_cases, contains_here, contains_none, contains_there, filter_from, filter_has, greater_is, greater_not_equal, less_is, less_not_equal, pairs_append, pairs_head, pairs_none, pairs_one, pairs_tail, turned}

module _ {A : Type 0} (order : A → A → Ordering) (total : IsTotalOrder order) where
  abbrev Before : A → A → Type 0
  Before x y = order x y ≡ Less

  pub below_from : (k : A) (xs : List A) (x : A) → Contains (below order k xs) x → Contains xs x × (order x k ≡ Less)
  below_from k xs x c = let r = filter_from (λ y. is_lt (order y k)) xs x c in (r.0, less_is (order x k) r.1)

  pub above_from : (k : A) (xs : List A) (x : A) → Contains (above order k xs) x → Contains xs x × (order x k ≡ Greater)
  above_from k xs x c = let r = filter_from (λ y. is_gt (order y k)) xs x c in (r.0, greater_is (order x k) r.1)

  one_from : (comes : Bool) (c y : A) → Contains (one_if comes c) y → (comes ≡ true) × (y ≡ c)
  one_from true c y m = (refl, elim (contains_cases y c [] m) [ inl e ↦ e | inr t ↦ absurd (contains_none y t) ])
  one_from false c y m = absurd (contains_none y m)

  one_in_order : (comes : Bool) (c : A) → AreInOrder order (one_if comes c)
  one_in_order true c = pairs_one Before c
  one_in_order false c = pairs_none Before

  -- an item was there, and none that changes is at its place; or it is one that comes
  pub edited_from : (comes : Bool) (xs cs : List A) → AreInOrder order cs → (y : A) → Contains (edited order comes xs cs) y → (Contains xs y × IsFree order cs y) ⊎ ((comes ≡ true) × Contains cs y)
  edited_from comes xs [] up y h = inl (h, λ o m e. contains_none o m)
  edited_from comes xs (c ∷ cs) up y h = elim (Contains-append_cases (below order c xs) (one_if comes c ++ edited order comes (above order c xs) cs) y h) [
    | inl b ↦
        let r = below_from c xs y b in
        inl (
          r.0,
          λ o m e. elim (contains_cases o c cs m) [
            | inl q ↦ less_not_equal (order y c) r.1 (subst (λ z. order y z ≡ Equal) q e)
            | inr t ↦ less_not_equal (order y o) (total.trans y c o r.1 (pairs_head Before c cs up o t)) e
          ],
        )
    | inr rest ↦ elim (Contains-append_cases (one_if comes c) (edited order comes (above order c xs) cs) y rest) [
      | inl m ↦ let r = one_from comes c y m in inr (r.0, subst (λ z. Contains (c ∷ cs) z) (sym r.1) (contains_here c cs))
      | inr a ↦ elim (edited_from comes (above order c xs) cs (pairs_tail Before c cs up) y a) [
        | inl o ↦
            let r = above_from c xs y o.0 in
            inl (
              r.0,
              λ p m e. elim (contains_cases p c cs m) [
                | inl q ↦ greater_not_equal (order y c) r.1 (subst (λ z. order y z ≡ Equal) q e)
                | inr t ↦ o.1 p t e
              ],
            )
        | inr o ↦ inr (o.0, contains_there y c cs o.1)
      ]
    ]
  ]

  pub edited_keeps : (comes : Bool) (xs cs : List A) (y : A) → Contains xs y → IsFree order cs y → Contains (edited order comes xs cs) y
  edited_keeps comes xs [] y h free = h
  edited_keeps comes xs (c ∷ cs) y h free =
      let one = one_if comes c in
      let more = edited order comes (above order c xs) cs in
      elim (by_order (order y c)) [
        | inl l ↦ Contains-append_left (below order c xs) (one ++ more) y (filter_has (λ z. is_lt (order z c)) xs y (ap is_lt l) h)
        | inr o ↦ elim o [
          | inl e ↦ absurd (free c (contains_here c cs) e)
          | inr g ↦ Contains-append_right (below order c xs) (one ++ more) y (Contains-append_right one more y
              (edited_keeps comes (above order c xs) cs y (filter_has (λ z. is_gt (order z c)) xs y (ap is_gt g) h) (λ p m. free p (contains_there p c cs m))))
        ]
      ]

  pub edited_comes : (xs cs : List A) (y : A) → Contains cs y → Contains (edited order true xs cs) y
  edited_comes xs [] y m = absurd (contains_none y m)
  edited_comes xs (c ∷ cs) y m =
      let more = edited order true (above order c xs) cs in
      Contains-append_right (below order c xs) ((c ∷ []) ++ more) y (elim (contains_cases y c cs m) [
        | inl e ↦ Contains-append_left (c ∷ []) more y (subst (λ z. Contains (c ∷ []) z) (sym e) (contains_here c []))
        | inr t ↦ Contains-append_right (c ∷ []) more y (edited_comes (above order c xs) cs y t)
      ])

  pub edited_in_order : (comes : Bool) (xs cs : List A) → AreInOrder order cs → AreInOrder order xs → AreInOrder order (edited order comes xs cs)
  edited_in_order comes xs [] up all = all
  edited_in_order comes xs (c ∷ cs) up all =
      let one = one_if comes c in
      let more = edited order comes (above order c xs) cs in
      let rest : AreInOrder order cs = pairs_tail Before c cs up in
      let after : (z : A) → Contains more z → order c z ≡ Less = λ z m. elim (edited_from comes (above order c xs) cs rest z m) [
        | inl o ↦ turned order total z c (above_from c xs z o.0).1
        | inr o ↦ pairs_head Before c cs up z o.1
      ] in
      pairs_append Before (below order c xs) (one ++ more) (AllPairs-filter Before (λ x. is_lt (order x c)) xs all)
      (pairs_append Before one more (one_in_order comes c)
      (edited_in_order comes (above order c xs) cs rest (AllPairs-filter Before (λ x. is_gt (order x c)) xs all))
      (λ y z m n. subst (λ k. order k z ≡ Less) (sym (one_from comes c y m).1) (after z n)))
      (λ y z m n.
      let b = (below_from c xs y m).1 in
      elim (Contains-append_cases one more z n) [
        | inl t ↦ subst (λ k. order y k ≡ Less) (sym (one_from comes c z t).1) b
        | inr t ↦ total.trans y c z b (after z t)
      ])

  -- those that go have gone, and then those that come have come
  pub is_edited : (before goes comes : List A) → AreInOrder order before → AreInOrder order goes → AreInOrder order comes → IsEdited order before goes comes (edited order true (edited order false before goes) comes)
  is_edited before goes comes all up vp =
      let left = edited order false before goes in
      record {
        ordered = edited_in_order true left comes vp (edited_in_order false before goes up all);
        items = λ x. (
          λ h. elim (edited_from true left comes vp x h) [
            | inl o ↦ elim (edited_from false before goes up x o.0) [
              | inl p ↦ inr (p.0, p.1, o.1)
              | inr p ↦ absurd (let t : false ≡ true = p.0 in cc)
            ]
            | inr o ↦ inl o.1
          ],
          λ h. elim h [
            | inl c ↦ edited_comes left comes x c
            | inr k ↦ edited_keeps true left comes x (edited_keeps false before goes x k.0 k.1) k.2
          ],
        );
      }

  -- chunks with changes are chunks of a list in order
  pub chunked_after : (comes : Bool) (cs all : List (List A)) (changed : List A) → IsChunked order cs → AreInOrder order changed → joined all ≡ edited order comes (joined cs) changed → AreFull all → IsChunked order all
  chunked_after comes cs all changed chunked up items full = record {
    full = full;
    ordered = subst (λ zs. AreInOrder order zs) (sym items) (edited_in_order comes (joined cs) changed up chunked.ordered);
  }

  -- both steps of an edit
  pub edited_after : (before goes comes left after : List A) → AreInOrder order before → AreInOrder order goes → AreInOrder order comes
      → left ≡ edited order false before goes → after ≡ edited order true left comes → IsEdited order before goes comes after
  edited_after before goes comes left after all up vp l a = subst (λ zs. IsEdited order before goes comes zs) (sym (a ∙ ap (λ zs. edited order true zs comes) l)) (is_edited before goes comes all up vp)
