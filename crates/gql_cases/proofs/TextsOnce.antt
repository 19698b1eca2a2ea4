-- Texts that are put in order, each once: neither their order nor how often one comes matters.
use Rattle.std.proofs.Common.{◌≡◌, ◌↔◌, ◌⊎◌, inl, inr, List, [], ◌∷◌, map, fold, refl, sym, ap, ap₂, ◌∙◌, subst}
use Rattle.std.specs.List.{AllByRecursion}
use Rattle.std.specs.Ordering.{ordering_reverse, match_ordering}
use Rattle.std.specs.declared.cmp.Ordering.{Ordering}
use Rattle.std.specs.declared.cmp.Ordering.TheVariants.{Less, Equal, Greater}
use Rattle.std.proofs.lemmas.Cmp.{nat_list_cmp_total}
use Rattle.gql_ast.specs.FileMaps.{name_order}
use Rattle.gql_merge.specs.Calls.{Text, each_once, with_text}
use Rattle.gql_cases.proofs.TextsInOrder.{IsIn, of_all, tied}

abbrev IsBelow : Text → Text → Type 0
IsBelow x y = name_order x y ≡ Less

-- each text is below those after it
abbrev IsRising : List Text → Type 0
IsRising [] = Unit {0}
IsRising (x ∷ xs) = AllByRecursion (IsBelow x) xs × IsRising xs

not_below_itself : (x : Text) → IsBelow x x → ⊥
not_below_itself x h =
    let bad : Less ≡ Greater = sym h ∙ nat_list_cmp_total.antisymm x x ∙ ap ordering_reverse h in cc

not_both : (x y : Text) → IsBelow x y → IsBelow y x → ⊥
not_both x y p q =
    let bad : Less ≡ Greater = sym p ∙ nat_list_cmp_total.antisymm x y ∙ ap ordering_reverse q in cc

same_first : (x y : Text) (xs ys : List Text) → AllByRecursion (IsBelow x) xs
    → AllByRecursion (IsBelow y) ys
    → IsIn x (y ∷ ys) → IsIn y (x ∷ xs) → x ≡ y
same_first x y xs ys low_x low_y (inl e) b = e
same_first x y xs ys low_x low_y (inr a) (inl e) = sym e
same_first x y xs ys low_x low_y (inr a) (inr b) =
    absurd (not_both x y (of_all (IsBelow x) y xs low_x b) (of_all (IsBelow y) x ys low_y a))

behind : (x y q : Text) (xs ys : List Text) → AllByRecursion (IsBelow x) xs → x ≡ y → IsIn q xs
    → IsIn q (y ∷ ys) → IsIn q ys
behind x y q xs ys low same h (inl e) =
    absurd (not_below_itself x (of_all (IsBelow x) x xs low (subst (λ z. IsIn z xs) (e ∙ sym same) h)))
behind x y q xs ys low same h (inr g) = g

one_list : (xs ys : List Text) → IsRising xs → IsRising ys → ((q : Text) → IsIn q xs ↔ IsIn q ys)
    → xs ≡ ys
one_list [] [] p q same = refl
one_list [] (y ∷ ys) p q same = absurd ((same y).1 (inl refl))
one_list (x ∷ xs) [] p q same = absurd ((same x).0 (inl refl))
one_list (x ∷ xs) (y ∷ ys) p q same =
    let first : x ≡ y =
    same_first x y xs ys p.0 q.0 ((same x).0 (inl refl)) ((same y).1 (inl refl)) in
    ap₂ (λ z zs. z ∷ zs) first (one_list xs ys p.1 q.1 (λ t. (
      λ h. behind x y t xs ys p.0 first h ((same t).0 (inr h)),
      λ h. behind y x t ys xs q.0 (sym first) h ((same t).1 (inr h)),
    )))

-- ---- one text more, unless it is there

abbrev put : Text → List Text → List Text
put t [] = t ∷ []
put t (x ∷ xs) = match_ordering (name_order t x) (t ∷ x ∷ xs) (x ∷ xs) (x ∷ put t xs)

abbrev put_all : List Text → List Text → List Text
put_all xs [] = xs
put_all xs (t ∷ ts) = put_all (put t xs) ts

put_below : (P : Text → Type 0) (t : Text) (xs : List Text) → P t → AllByRecursion P xs
    → AllByRecursion P (put t xs)
put_below P t [] it all = (it, tt)
put_below P t (x ∷ xs) it all = by (name_order t x) (put_below P t xs it all.1) where
  by : (o : Ordering) → AllByRecursion P (put t xs)
      → AllByRecursion P (match_ordering o (t ∷ x ∷ xs) (x ∷ xs) (x ∷ put t xs))
  by Less more = (it, all)
  by Equal more = all
  by Greater more = (all.0, more)

all_below : (x y : Text) (ys : List Text) → IsBelow x y → AllByRecursion (IsBelow y) ys
    → AllByRecursion (IsBelow x) ys
all_below x y [] less all = tt
all_below x y (z ∷ zs) less all =
    (nat_list_cmp_total.trans x y z less all.0, all_below x y zs less all.1)

put_rising : (t : Text) (xs : List Text) → IsRising xs → IsRising (put t xs)
put_rising t [] up = (tt, tt)
put_rising t (x ∷ xs) up = by (name_order t x) refl (put_rising t xs up.1) where
  by : (o : Ordering) → name_order t x ≡ o → IsRising (put t xs)
      → IsRising (match_ordering o (t ∷ x ∷ xs) (x ∷ xs) (x ∷ put t xs))
  by Less is more = ((is, all_below t x xs is up.0), up)
  by Equal is more = up
  by Greater is more =
      (put_below (IsBelow x) t xs (nat_list_cmp_total.antisymm x t ∙ ap ordering_reverse is) up.0, more)

put_to : (q t : Text) (xs : List Text) → IsIn q (t ∷ xs) → IsIn q (put t xs)
put_to q t [] h = h
put_to q t (x ∷ xs) h = by (name_order t x) refl h (put_to q t xs) where
  by : (o : Ordering) → name_order t x ≡ o → IsIn q (t ∷ x ∷ xs)
      → (IsIn q (t ∷ xs) → IsIn q (put t xs))
      → IsIn q (match_ordering o (t ∷ x ∷ xs) (x ∷ xs) (x ∷ put t xs))
  by Less is h more = h
  by Equal is (inl e) more = inl (e ∙ tied t x is)
  by Equal is (inr h) more = h
  by Greater is (inl e) more = inr (more (inl e))
  by Greater is (inr (inl e)) more = inl e
  by Greater is (inr (inr h)) more = inr (more (inr h))

put_from : (q t : Text) (xs : List Text) → IsIn q (put t xs) → IsIn q (t ∷ xs)
put_from q t [] h = h
put_from q t (x ∷ xs) h = by (name_order t x) h (put_from q t xs) where
  by : (o : Ordering) → IsIn q (match_ordering o (t ∷ x ∷ xs) (x ∷ xs) (x ∷ put t xs))
      → (IsIn q (put t xs) → IsIn q (t ∷ xs)) → IsIn q (t ∷ x ∷ xs)
  by Less h more = h
  by Equal h more = inr h
  by Greater (inl e) more = inr (inl e)
  by Greater (inr h) more = elim (more h) [ inl e ↦ inl e | inr g ↦ inr (inr g) ]

all_rising : (ts xs : List Text) → IsRising xs → IsRising (put_all xs ts)
all_rising [] xs up = up
all_rising (t ∷ ts) xs up = all_rising ts (put t xs) (put_rising t xs up)

all_to : (q : Text) (ts xs : List Text) → IsIn q ts ⊎ IsIn q xs → IsIn q (put_all xs ts)
all_to q [] xs (inl h) = absurd h
all_to q [] xs (inr h) = h
all_to q (t ∷ ts) xs (inl (inl e)) = all_to q ts (put t xs) (inr (put_to q t xs (inl e)))
all_to q (t ∷ ts) xs (inl (inr h)) = all_to q ts (put t xs) (inl h)
all_to q (t ∷ ts) xs (inr h) = all_to q ts (put t xs) (inr (put_to q t xs (inr h)))

all_from : (q : Text) (ts xs : List Text) → IsIn q (put_all xs ts) → IsIn q ts ⊎ IsIn q xs
all_from q [] xs h = inr h
all_from q (t ∷ ts) xs h = elim (all_from q ts (put t xs) h) [
  | inl g ↦ inl (inr g)
  | inr g ↦ elim (put_from q t xs g) [ inl e ↦ inl (inl e) | inr k ↦ inr k ]
]

-- ---- the same of the texts of a call

abbrev Entries : Type 0
Entries = List (Text × Unit {0})

abbrev texts_of : Entries → List Text
texts_of = map (λ (e : Text × Unit {0}). e.0)

put_texts : (t : Text) (es : Entries) → texts_of (with_text es t) ≡ put t (texts_of es)
put_texts t [] = refl
put_texts t (e ∷ es) = by (name_order t e.0) (put_texts t es) where
  by : (o : Ordering) → texts_of (with_text es t) ≡ put t (texts_of es)
      → texts_of (match_ordering o ((t, tt) ∷ e ∷ es) ((e.0, tt) ∷ es) (e ∷ with_text es t))
      ≡ match_ordering o (t ∷ e.0 ∷ texts_of es) (e.0 ∷ texts_of es) (e.0 ∷ put t (texts_of es))
  by Less more = refl
  by Equal more = refl
  by Greater more = ap (λ ts. e.0 ∷ ts) more

all_texts : (ts : List Text) (es : Entries)
    → texts_of (fold with_text es ts) ≡ put_all (texts_of es) ts
all_texts [] es = refl
all_texts (t ∷ ts) es = all_texts ts (with_text es t) ∙ ap (λ xs. put_all xs ts) (put_texts t es)

each_once_is : (ts : List Text) → each_once ts ≡ put_all [] ts
each_once_is ts = all_texts ts []

pub once_to : (q : Text) (ts : List Text) → IsIn q ts → IsIn q (each_once ts)
once_to q ts h = subst (λ l. IsIn q l) (sym (each_once_is ts)) (all_to q ts [] (inl h))

pub once_from : (q : Text) (ts : List Text) → IsIn q (each_once ts) → IsIn q ts
once_from q ts h =
    elim (all_from q ts [] (subst (λ l. IsIn q l) (each_once_is ts) h)) [ inl g ↦ g | inr g ↦ absurd g ]

pub once_same : (ts us : List Text) → ((q : Text) → IsIn q ts → IsIn q us)
    → ((q : Text) → IsIn q us → IsIn q ts) → each_once ts ≡ each_once us
once_same ts us there back = each_once_is ts
    ∙ one_list (put_all [] ts) (put_all [] us) (all_rising ts [] tt) (all_rising us [] tt) (λ q. (
      λ h. all_to q us [] (elim (all_from q ts [] h) [ inl g ↦ inl (there q g) | inr g ↦ absurd g ]),
      λ h. all_to q ts [] (elim (all_from q us [] h) [ inl g ↦ inl (back q g) | inr g ↦ absurd g ]),
    ))
    ∙ sym (each_once_is us)
