-- Lists of texts that end in commas: the list can be read back if each of its texts can.
use Rattle.std.proofs.Common.{◌≡◌, ◌<◌, ◌+◌, inl, inr, ℕ, List, [], ◌∷◌, ◌++◌, map, refl, sym, ap, ap₂, ◌∙◌, subst, arith, append_assoc}
use Rattle.std.specs.List.{AllByRecursion}
use Rattle.std.specs.List.Sorted.{IsPermutation}
use Rattle.std.proofs.lemmas.List.Sorted.{IsPermutation-refl, IsPermutation-cons, IsPermutation-middle, IsPermutation-trans}
use Rattle.std.proofs.lemmas.List.{append_cancel_right}
use Rattle.gql_merge.specs.Calls.{Text, with_commas}
use Rattle.gql_cases.proofs.TextsInOrder.{hit, times, AreAsOften, IsIn, is_in, often}
use Rattle.gql_cases.proofs.Words.{same_tail}

-- the texts with commas, before a rest
pub comma_first : (t : Text) (ts : List Text) (r : List ℕ)
    → with_commas (t ∷ ts) ++ r ≡ t ++ (44 ∷ (with_commas ts ++ r))
comma_first t ts r = simp append_assoc

module _ {A : Type 0} (text : A → Text) (IsGood : A → Type 0) (IsSame : A → A → Type 0) where
  -- the text of a member can be read back: what begins with it and a comma begins so with a member
  -- that is the same
  pub record IsRead (a : A) : Type 0 where
    pub good : IsGood a
    pub only : (b : A) → IsGood b → (r s : List ℕ) → text a ++ (44 ∷ r) ≡ text b ++ (44 ∷ s)
        → IsSame a b × (r ≡ s)

  pub same_text_same : (a b : A) → IsRead a → IsGood b → text a ≡ text b → IsSame a b
  same_text_same a b h g e = (h.only b g [] [] (ap (λ t. t ++ (44 ∷ [])) e)).0

  -- the text of such a member
  abbrev pub IsTextOf : (A → Type 0) → Text → Type 0
  IsTextOf P t = (a : A) × (t ≡ text a) × P a

  pub texts_of_all : (P : A → Type 0) (xs : List A) → AllByRecursion P xs → (q : Text)
      → IsIn q (map text xs) → IsTextOf P q
  texts_of_all P [] all q h = absurd h
  texts_of_all P (x ∷ xs) all q (inl e) = (x, e, all.0)
  texts_of_all P (x ∷ xs) all q (inr h) = texts_of_all P xs all.1 q h

  pub good_ones : (xs : List A) → AllByRecursion IsRead xs → AllByRecursion IsGood xs
  good_ones [] all = tt
  good_ones (x ∷ xs) all = (all.0.good, good_ones xs all.1)

  module _ (starts : (a : A) → IsGood a → (r s : List ℕ) → text a ++ r ≡ 125 ∷ s → ⊥) where
    -- a list of such texts before a `}` is read back
    pub one_reading : (ts us : List Text) → AllByRecursion (IsTextOf IsRead) ts
        → AllByRecursion (IsTextOf IsGood) us
        → (r s : List ℕ) → with_commas ts ++ (125 ∷ r) ≡ with_commas us ++ (125 ∷ s) → (ts ≡ us)
        × (r ≡ s)
    one_reading [] [] p q r s e = (refl, same_tail 125 125 r s e)
    one_reading [] (u ∷ us) p q r s e =
        absurd (starts q.0.0 q.0.2 (44 ∷ (with_commas us ++ (125 ∷ s))) r
        (ap (λ t. t ++ (44 ∷ (with_commas us ++ (125 ∷ s)))) (sym q.0.1) ∙ sym (comma_first u us (125 ∷ s)) ∙ sym e))
    one_reading (t ∷ ts) [] p q r s e =
        absurd (starts p.0.0 p.0.2.good (44 ∷ (with_commas ts ++ (125 ∷ r))) s
        (ap (λ u. u ++ (44 ∷ (with_commas ts ++ (125 ∷ r)))) (sym p.0.1) ∙ sym (comma_first t ts (125 ∷ r)) ∙ e))
    one_reading (t ∷ ts) (u ∷ us) p q r s e =
        let f : t ++ (44 ∷ (with_commas ts ++ (125 ∷ r))) ≡ u ++ (44 ∷ (with_commas us ++ (125 ∷ s))) =
        sym (comma_first t ts (125 ∷ r)) ∙ e ∙ comma_first u us (125 ∷ s) in
        let g : text p.0.0 ++ (44 ∷ (with_commas ts ++ (125 ∷ r))) ≡ text q.0.0 ++ (44 ∷ (with_commas us ++ (125 ∷ s))) =
        ap (λ z. z ++ (44 ∷ (with_commas ts ++ (125 ∷ r)))) (sym p.0.1) ∙ f ∙ ap (λ z. z ++ (44 ∷ (with_commas us ++ (125 ∷ s)))) q.0.1 in
        let k =
        p.0.2.only q.0.0 q.0.2 (with_commas ts ++ (125 ∷ r)) (with_commas us ++ (125 ∷ s)) g in
        let more = one_reading ts us p.1 q.1 r s k.1 in
        let same : t ≡ u =
        front t u (with_commas ts ++ (125 ∷ r)) (with_commas us ++ (125 ∷ s)) k.1 f in
        (ap₂ (λ z zs. z ∷ zs) same more.0, more.1)
      where
        front : (t u : Text) (r s : List ℕ) → r ≡ s → t ++ (44 ∷ r) ≡ u ++ (44 ∷ s) → t ≡ u
        front t u r s e f =
            append_cancel_right t u (44 ∷ s) (subst (λ z. t ++ (44 ∷ z) ≡ u ++ (44 ∷ s)) e f)

  -- ---- members that are the same in some order

  abbrev pub AreSame : List A → List A → Type 0
  AreSame [] [] = Unit {0}
  AreSame [] (y ∷ ys) = ⊥
  AreSame (x ∷ xs) [] = ⊥
  AreSame (x ∷ xs) (y ∷ ys) = IsSame x y × AreSame xs ys

  -- a member of this text, and those around it
  record IsAmong (q : Text) (ys : List A) : Type 0 where
    member : A
    front : List A
    back : List A
    parts : ys ≡ front ++ (member ∷ back)
    of_text : q ≡ text member

  among : (q : Text) (ys : List A) → IsIn q (map text ys) → IsAmong q ys
  among q [] h = absurd h
  among q (y ∷ ys) (inl e) = record { member = y; front = []; back = ys; parts = refl; of_text = e }
  among q (y ∷ ys) (inr h) = let r = among q ys h in
      record { member = r.member; front = y ∷ r.front; back = r.back; parts = ap (λ l. y ∷ l) r.parts; of_text = r.of_text }

  times_among : (q : Text) (front : List A) (b : A) (back : List A)
      → times q (map text (front ++ (b ∷ back))) ≡ hit q (text b) + times q (map text (front ++ back))
  times_among q [] b back = refl
  times_among q (y ∷ front) b back = let e = times_among q front b back in omega (arith, e)

  good_among : (front : List A) (b : A) (back : List A)
      → AllByRecursion IsGood (front ++ (b ∷ back)) → IsGood b
      × AllByRecursion IsGood (front ++ back)
  good_among [] b back all = (all.0, all.1)
  good_among (y ∷ front) b back all = let r = good_among front b back all.1 in (r.0, (all.0, r.1))

  pub some_order : (xs ys : List A) → AllByRecursion IsRead xs → AllByRecursion IsGood ys
      → AreAsOften (map text xs) (map text ys)
      → (zs : List A) × IsPermutation ys zs × AreSame xs zs
  some_order [] [] read good same = ([], IsPermutation-refl [], tt)
  some_order [] (y ∷ ys) read good same =
      absurd (let h = often (text y) (text y) (map text ys) refl in let e = same (text y) in omega (arith, h, e))
  some_order (x ∷ xs) ys read good same =
      by (among (text x) ys (is_in (text x) (map text ys) (subst (λ n. 0 < n) (same (text x)) (often (text x) (text x) (map text xs) refl))))
      (some_order xs)
    where
      by : IsAmong (text x) ys
          → ((us : List A) → AllByRecursion IsRead xs → AllByRecursion IsGood us → AreAsOften (map text xs) (map text us) → (zs : List A) × IsPermutation us zs × AreSame xs zs)
          → (zs : List A) × IsPermutation ys zs × AreSame (x ∷ xs) zs
      by r more =
          let g =
          good_among r.front r.member r.back (subst (λ l. AllByRecursion IsGood l) r.parts good) in
          let k = more (r.front ++ r.back) read.1 g.1 (λ q.
          let e : hit q (text x) + times q (map text xs) ≡ times q (map text ys) = same q in
          let f : times q (map text ys) ≡ times q (map text (r.front ++ (r.member ∷ r.back))) =
          ap (λ l. times q (map text l)) r.parts in
          let i = times_among q r.front r.member r.back in
          let j : hit q (text x) ≡ hit q (text r.member) = ap (λ t. hit q t) r.of_text in
          omega (arith, e, f, i, j)) in (
            r.member ∷ k.0,
            subst (λ l. IsPermutation l (r.member ∷ k.0)) (sym r.parts)
                (IsPermutation-trans (r.front ++ (r.member ∷ r.back)) (r.member ∷ (r.front ++ r.back)) (r.member ∷ k.0)
                (IsPermutation-middle r.front r.member r.back) (IsPermutation-cons r.member (r.front ++ r.back) k.0 k.1)),
            (same_text_same x r.member read.0 g.0 r.of_text, k.2),
          )
