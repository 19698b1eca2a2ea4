-- Texts that are put in order, one after another: the order in which they come does not matter.
use Rattle.std.proofs.Common.{◌≡◌, ◌⊎◌, ◌<◌, ◌+◌, inl, inr, ℕ, List, [], ◌∷◌, Bool, true, false, cond, map, bytes_eq, refl, sym, ap, ap₂, ◌∙◌, subst, arith}
use Rattle.std.specs.BTreeMap.{insert_entry}
use Rattle.std.specs.List.{AllByRecursion}
use Rattle.std.specs.Ordering.{is_eq, ordering_reverse, ordering_then, match_ordering, nat_cmp}
use Rattle.std.specs.declared.cmp.Ordering.{Ordering}
use Rattle.std.specs.declared.cmp.Ordering.TheVariants.{Less, Equal, Greater}
use Rattle.std.specs.Cmp.Lexicographic.{texts_ties, same_text}
use Rattle.std.proofs.lemmas.Cmp.{nat_list_cmp_total}
use Rattle.std.proofs.lemmas.Slice.Eq.{bytes_eq-Decides}
use Rattle.gql_ast.specs.FileMaps.{name_order}
use Rattle.gql_merge.specs.Calls.{Text, in_order, ordered_from, numbered_order}

-- ---- how often a text occurs

-- 1 for this text, and 0 for another
abbrev pub hit : Text → Text → ℕ
hit q t = cond (bytes_eq q t) 1 0

-- how often a text is among these
abbrev pub times : Text → List Text → ℕ
times q [] = 0
times q (t ∷ ts) = hit q t + times q ts

-- each text is as often among the one as among the other
abbrev pub AreAsOften : List Text → List Text → Type 0
AreAsOften ts us = (q : Text) → times q ts ≡ times q us

pub hit_self : (t : Text) → hit t t ≡ 1
hit_self t = rw ((bytes_eq-Decides t t).1 refl) refl

-- a text is among these
abbrev pub IsIn : Text → List Text → Type 0
IsIn q [] = ⊥
IsIn q (t ∷ ts) = (q ≡ t) ⊎ IsIn q ts

pub is_in : (q : Text) (ts : List Text) → 0 < times q ts → IsIn q ts
is_in q [] h = omega (arith, h)
is_in q (t ∷ ts) h = by (bytes_eq q t) refl (is_in q ts) h where
  by : (b : Bool) → bytes_eq q t ≡ b → (0 < times q ts → IsIn q ts) → 0 < hit q t + times q ts
      → IsIn q (t ∷ ts)
  by true is more h = inl ((bytes_eq-Decides q t).0 is)
  by false is more h =
      let g : 0 < cond false 1 0 + times q ts = rw is at h in inr (more (omega (arith, g)))

pub often : (q t : Text) (ts : List Text) → q ≡ t → 0 < times q (t ∷ ts)
often q t ts e =
    let one : hit q t ≡ 1 = subst (λ z. hit q z ≡ 1) e (hit_self q) in omega (arith, one)

-- ---- one order

-- no greater than the other
abbrev pub IsUpTo : Text → Text → Type 0
IsUpTo x y = name_order x y ≡ Greater → ⊥

turned : (o p : Ordering) → o ≡ ordering_reverse p → (o ≡ Greater → ⊥) → (p ≡ Greater → ⊥)
    → o ≡ Equal
turned Equal p e a b = refl
turned Greater p e a b = absurd (a refl)
turned Less Greater e a b = absurd (b refl)
turned Less Less e a b = cc
turned Less Equal e a b = cc

pub tied : (x y : Text) → name_order x y ≡ Equal → x ≡ y
tied x y is = same_text x y (sym (texts_ties x y ∙ ap is_eq is))

one_text : (x y : Text) → IsUpTo x y → IsUpTo y x → x ≡ y
one_text x y a b =
    tied x y (turned (name_order x y) (name_order y x) (nat_list_cmp_total.antisymm x y) a b)

-- each text is no greater than those after it
abbrev pub IsInOrder : List Text → Type 0
IsInOrder [] = Unit {0}
IsInOrder (x ∷ xs) = AllByRecursion (IsUpTo x) xs × IsInOrder xs

pub of_all : (P : Text → Type 0) (q : Text) (ts : List Text) → AllByRecursion P ts → IsIn q ts → P q
of_all P q [] all h = absurd h
of_all P q (t ∷ ts) all (inl e) = subst P (sym e) all.0
of_all P q (t ∷ ts) all (inr h) = of_all P q ts all.1 h

same_first : (x y : Text) (xs ys : List Text) → AllByRecursion (IsUpTo x) xs
    → AllByRecursion (IsUpTo y) ys
    → IsIn x (y ∷ ys) → IsIn y (x ∷ xs) → x ≡ y
same_first x y xs ys low_x low_y (inl e) b = e
same_first x y xs ys low_x low_y (inr a) (inl e) = sym e
same_first x y xs ys low_x low_y (inr a) (inr b) =
    one_text x y (of_all (IsUpTo x) y xs low_x b) (of_all (IsUpTo y) x ys low_y a)

-- two lists in order with each text as often are one list
pub one_list : (xs ys : List Text) → IsInOrder xs → IsInOrder ys → AreAsOften xs ys → xs ≡ ys
one_list [] [] p q same = refl
one_list [] (y ∷ ys) p q same =
    absurd (let h = often y y ys refl in let e = same y in omega (arith, h, e))
one_list (x ∷ xs) [] p q same =
    absurd (let h = often x x xs refl in let e = same x in omega (arith, h, e))
one_list (x ∷ xs) (y ∷ ys) p q same =
    let a : IsIn x (y ∷ ys) = is_in x (y ∷ ys) (subst (λ n. 0 < n) (same x) (often x x xs refl)) in
    let b : IsIn y (x ∷ xs) =
    is_in y (x ∷ xs) (subst (λ n. 0 < n) (sym (same y)) (often y y ys refl)) in
    let first : x ≡ y = same_first x y xs ys p.0 q.0 a b in
    ap₂ (λ z zs. z ∷ zs) first (one_list xs ys p.1 q.1 (λ t.
    let e : hit t x + times t xs ≡ hit t y + times t ys = same t in
    let f : hit t x ≡ hit t y = ap (λ z. hit t z) first in
    omega (arith, e, f)))

-- ---- one text more, after those that are no greater

abbrev pub put : Text → List Text → List Text
put t [] = t ∷ []
put t (x ∷ xs) = match_ordering (name_order t x) (t ∷ x ∷ xs) (x ∷ put t xs) (x ∷ put t xs)

abbrev pub put_all : List Text → List Text → List Text
put_all xs [] = xs
put_all xs (t ∷ ts) = put_all (put t xs) ts

put_times : (q t : Text) (xs : List Text) → times q (put t xs) ≡ hit q t + times q xs
put_times q t [] = refl
put_times q t (x ∷ xs) = by (name_order t x) (put_times q t xs) where
  by : (o : Ordering) → times q (put t xs) ≡ hit q t + times q xs
      → times q (match_ordering o (t ∷ x ∷ xs) (x ∷ put t xs) (x ∷ put t xs)) ≡ hit q t + (hit q x + times q xs)
  by Less e = refl
  by Equal e = omega (arith, e)
  by Greater e = omega (arith, e)

put_all_times : (q : Text) (ts xs : List Text) → times q (put_all xs ts) ≡ times q ts + times q xs
put_all_times q [] xs = omega arith
put_all_times q (t ∷ ts) xs =
    let e = put_all_times q ts (put t xs) in let f = put_times q t xs in omega (arith, e, f)

put_below : (P : Text → Type 0) (t : Text) (xs : List Text) → P t → AllByRecursion P xs
    → AllByRecursion P (put t xs)
put_below P t [] it all = (it, tt)
put_below P t (x ∷ xs) it all = by (name_order t x) (put_below P t xs it all.1) where
  by : (o : Ordering) → AllByRecursion P (put t xs)
      → AllByRecursion P (match_ordering o (t ∷ x ∷ xs) (x ∷ put t xs) (x ∷ put t xs))
  by Less more = (it, all)
  by Equal more = (all.0, more)
  by Greater more = (all.0, more)

below_less : (x y z : Text) → name_order x y ≡ Less → IsUpTo y z → IsUpTo x z
below_less x y z less up is =
    let back : name_order z x ≡ Less = nat_list_cmp_total.antisymm z x ∙ ap ordering_reverse is in
    let low : name_order z y ≡ Less = nat_list_cmp_total.trans z x y back less in
    up (nat_list_cmp_total.antisymm y z ∙ ap ordering_reverse low)

all_less : (x y : Text) (ys : List Text) → name_order x y ≡ Less → AllByRecursion (IsUpTo y) ys
    → AllByRecursion (IsUpTo x) ys
all_less x y [] less all = tt
all_less x y (z ∷ zs) less all = (below_less x y z less all.0, all_less x y zs less all.1)

not_greater : (x y : Text) (o : Ordering) → name_order x y ≡ o → ordering_reverse o ≡ name_order y x
    → (o ≡ Less → ⊥) → IsUpTo y x
not_greater x y Less is back never = absurd (never refl)
not_greater x y Equal is back never = λ e. let bad : Equal ≡ Greater = back ∙ e in cc
not_greater x y Greater is back never = λ e. let bad : Less ≡ Greater = back ∙ e in cc

put_in_order : (t : Text) (xs : List Text) → IsInOrder xs → IsInOrder (put t xs)
put_in_order t [] sorted = (tt, tt)
put_in_order t (x ∷ xs) sorted = by (name_order t x) refl (put_in_order t xs sorted.1) where
  later : (o : Ordering) → name_order t x ≡ o → (o ≡ Less → ⊥)
      → AllByRecursion (IsUpTo x) (put t xs)
  later o is never =
      put_below (IsUpTo x) t xs (not_greater t x o is (sym (nat_list_cmp_total.antisymm x t ∙ ap ordering_reverse is)) never) sorted.0

  by : (o : Ordering) → name_order t x ≡ o → IsInOrder (put t xs)
      → IsInOrder (match_ordering o (t ∷ x ∷ xs) (x ∷ put t xs) (x ∷ put t xs))
  by Less is more =
      ((λ e. let bad : Less ≡ Greater = sym is ∙ e in cc, all_less t x xs is sorted.0), sorted)
  by Equal is more = (later Equal is (λ e. cc), more)
  by Greater is more = (later Greater is (λ e. cc), more)

put_all_in_order : (ts xs : List Text) → IsInOrder xs → IsInOrder (put_all xs ts)
put_all_in_order [] xs sorted = sorted
put_all_in_order (t ∷ ts) xs sorted = put_all_in_order ts (put t xs) (put_in_order t xs sorted)

-- ---- texts in order, with numbers

abbrev Numbered : Type 0
Numbered = List ((Text × ℕ) × Unit {0})

abbrev texts_of : Numbered → List Text
texts_of = map (λ (e : (Text × ℕ) × Unit {0}). e.0.0)

-- the numbers are below this one
abbrev AreBelow : ℕ → Numbered → Type 0
AreBelow n [] = Unit {0}
AreBelow n (e ∷ es) = (e.0.1 < n) × AreBelow n es

greater : (m n : ℕ) → m < n → nat_cmp n m ≡ Greater
greater m n h = grind (arith, h)

-- these entries with this text under this number
abbrev with_entry : Text → ℕ → Numbered → Numbered
with_entry t n es = insert_entry numbered_order es (t, n) tt

-- the same, if the text compares so with that of the first entry
abbrev with_entry_by : Ordering → Text → ℕ → (Text × ℕ) × Unit {0} → Numbered → Numbered
with_entry_by o t n e es = match_ordering o (((t, n), tt) ∷ e ∷ es) (e ∷ with_entry t n es) (e ∷ with_entry t n es)

-- an entry is put after those of its text
step : (t : Text) (n : ℕ) (e : (Text × ℕ) × Unit {0}) (es : Numbered) → e.0.1 < n
    → with_entry t n (e ∷ es) ≡ with_entry_by (name_order t e.0.0) t n e es
step t n e es low = by (name_order t e.0.0) (nat_cmp n e.0.1) (greater e.0.1 n low) where
  by : (o p : Ordering) → p ≡ Greater
      → match_ordering (ordering_then o p) (((t, n), tt) ∷ e ∷ es) ((e.0, tt) ∷ es) (e ∷ with_entry t n es)
      ≡ with_entry_by o t n e es
  by Less p is = refl
  by Equal p is = rw is refl
  by Greater p is = refl

put_texts : (t : Text) (n : ℕ) (es : Numbered) → AreBelow n es
    → texts_of (with_entry t n es) ≡ put t (texts_of es)
put_texts t n [] low = refl
put_texts t n (e ∷ es) low =
    ap texts_of (step t n e es low.0) ∙ by (name_order t e.0.0) (put_texts t n es low.1) where
      by : (o : Ordering) → texts_of (with_entry t n es) ≡ put t (texts_of es)
          → texts_of (with_entry_by o t n e es)
          ≡ match_ordering o (t ∷ texts_of (e ∷ es)) (e.0.0 ∷ put t (texts_of es)) (e.0.0 ∷ put t (texts_of es))
      by Less more = refl
      by Equal more = ap (λ ts. e.0.0 ∷ ts) more
      by Greater more = ap (λ ts. e.0.0 ∷ ts) more

higher : (n : ℕ) (es : Numbered) → AreBelow n es → AreBelow (n + 1) es
higher n [] low = tt
higher n (e ∷ es) low = (omega (arith, low.0), higher n es low.1)

put_numbers : (t : Text) (n : ℕ) (es : Numbered) → AreBelow n es
    → AreBelow (n + 1) (with_entry t n es)
put_numbers t n [] low = (omega arith, tt)
put_numbers t n (e ∷ es) low =
    subst (λ l. AreBelow (n + 1) l) (sym (step t n e es low.0)) (by (name_order t e.0.0) (put_numbers t n es low.1)) where
      by : (o : Ordering) → AreBelow (n + 1) (with_entry t n es)
          → AreBelow (n + 1) (with_entry_by o t n e es)
      by Less more = (omega arith, higher n (e ∷ es) low)
      by Equal more = (omega (arith, low.0), more)
      by Greater more = (omega (arith, low.0), more)

ordered_texts : (ts : List Text) (n : ℕ) (es : Numbered) → AreBelow n es
    → texts_of (ordered_from es n ts) ≡ put_all (texts_of es) ts
ordered_texts [] n es low = refl
ordered_texts (t ∷ ts) n es low =
    ordered_texts ts (n + 1) (with_entry t n es) (put_numbers t n es low)
    ∙ ap (λ xs. put_all xs ts) (put_texts t n es low)

in_order_is : (ts : List Text) → in_order ts ≡ put_all [] ts
in_order_is ts = ordered_texts ts 0 [] tt

-- the texts in order are those that are given, each as often
pub in_order_times : (q : Text) (ts : List Text) → times q (in_order ts) ≡ times q ts
in_order_times q ts =
    ap (λ xs. times q xs) (in_order_is ts) ∙ let e = put_all_times q ts [] in omega (arith, e)

-- the order in which the texts come does not matter
pub in_order_same : (ts us : List Text) → AreAsOften ts us → in_order ts ≡ in_order us
in_order_same ts us same = in_order_is ts
    ∙ one_list (put_all [] ts) (put_all [] us) (put_all_in_order ts [] tt) (put_all_in_order us [] tt) (λ q.
    let e =
    put_all_times q ts [] in let f = put_all_times q us [] in let g = same q in omega (arith, e, f, g))
    ∙ sym (in_order_is us)

pub in_times : (q : Text) (ts : List Text) → IsIn q ts → 0 < times q ts
in_times q [] h = absurd h
in_times q (t ∷ ts) (inl e) = often q t ts e
in_times q (t ∷ ts) (inr h) = let g = in_times q ts h in omega (arith, g)

pub all_of : (P : Text → Type 0) (ts : List Text) → ((q : Text) → IsIn q ts → P q)
    → AllByRecursion P ts
all_of P [] f = tt
all_of P (t ∷ ts) f = (f t (inl refl), all_of P ts (λ q h. f q (inr h)))

-- a text in order is one of those that are given, and the other way round
pub in_order_from : (q : Text) (ts : List Text) → IsIn q (in_order ts) → IsIn q ts
in_order_from q ts h =
    is_in q ts (subst (λ n. 0 < n) (in_order_times q ts) (in_times q (in_order ts) h))

pub in_order_to : (q : Text) (ts : List Text) → IsIn q ts → IsIn q (in_order ts)
in_order_to q ts h =
    is_in q (in_order ts) (subst (λ n. 0 < n) (sym (in_order_times q ts)) (in_times q ts h))
