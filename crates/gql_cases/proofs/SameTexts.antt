-- The same calls have one text, and texts that are one are of the same calls.
use Rattle.std.proofs.Common.{◌≡◌, ◌⊎◌, inl, inr, ℕ, zero, suc, List, [], ◌∷◌, ◌++◌, Contains, map, refl, sym, ap, ap₂, ◌∙◌, subst, arith}
use Rattle.std.specs.Prelude.{codes}
use Rattle.std.specs.List.{AllByRecursion}
use Rattle.std.specs.List.Sorted.{IsPermutation}
use Rattle.std.proofs.lemmas.List.Recursion.{is_sum_by}
use Rattle.std.proofs.lemmas.List.Sorted.{sum_by-IsPermutation, IsPermutation-map}
use Rattle.gql_ast.specs.declared.literal.Argument.{Argument}
use Rattle.gql_ast.specs.declared.literal.Literal.{Literal}
use Rattle.gql_ast.specs.declared.literal.ObjectField.{ObjectField}
use Rattle.gql_merge.specs.Calls.{Text, with_commas, each_once, in_order, value_text, object_field_text, argument_text, call_text, text_variable, text_int, text_float, text_string, text_boolean, text_null, text_enum, text_list, text_object}
use Rattle.gql_cases.specs.SameCalls.{IsNumber, whole, with_fraction, SameValue, variables, numbers, strings, booleans, nulls, enums, lists, objects, SameItems, no_items, item, SameFields, no_fields, field, SameArgument, AreAmong, SameCall, SameCallHasSameText}
use Rattle.gql_cases.proofs.TextsInOrder.{AreAsOften, IsIn, hit, times, all_of, in_order_same}
use Rattle.gql_cases.proofs.Words.{IsClear, words}
use Rattle.gql_cases.proofs.ReadLists.{IsRead, IsTextOf, texts_of_all, same_text_same, one_reading}
use Rattle.gql_cases.proofs.TextsOnce.{once_to, once_from, once_same}
use Rattle.gql_cases.proofs.ReadValues.{IsPlain, member_read, no_close, read}

-- ---- the same values have one text

number_text : (x : Literal) (t : List ℕ) → IsNumber x t → value_text x ≡ t
number_text x t (whole p _ is) = ap value_text is ∙ text_int p t
number_text x t (with_fraction p _ is) = ap value_text is ∙ text_float p t

as_often : (xs ys : List Text) → IsPermutation xs ys → AreAsOften ys xs
as_often xs ys moved q =
    is_sum_by (λ l. times q l) (hit q) refl (λ t ts. refl) ys
    ∙ sum_by-IsPermutation (hit q) xs ys moved
    ∙ sym (is_sum_by (λ l. times q l) (hit q) refl (λ t ts. refl) xs)

mutual
  pub value_one : (x y : Literal) → SameValue x y → value_text x ≡ value_text y
  value_one x y (variables p q n is iz) =
      ap value_text is ∙ text_variable p n ∙ sym (text_variable q n) ∙ ap value_text (sym iz)
  value_one x y (numbers t f g) = number_text x t f ∙ sym (number_text y t g)
  value_one x y (strings p q v is iz) =
      ap value_text is ∙ text_string p v ∙ sym (text_string q v) ∙ ap value_text (sym iz)
  value_one x y (booleans p q b is iz) =
      ap value_text is ∙ text_boolean p b ∙ sym (text_boolean q b) ∙ ap value_text (sym iz)
  value_one x y (nulls p q is iz) =
      ap value_text is ∙ text_null p ∙ sym (text_null q) ∙ ap value_text (sym iz)
  value_one x y (enums p q n is iz) =
      ap value_text is ∙ text_enum p n ∙ sym (text_enum q n) ∙ ap value_text (sym iz)
  value_one x y (lists p q xs ys is iz same) = ap value_text is ∙ text_list p xs
      ∙ ap (λ ts. codes "[" ++ (with_commas ts ++ codes "]")) (items_one xs ys same)
      ∙ sym (text_list q ys) ∙ ap value_text (sym iz)
  value_one x y (objects p q fs gs hs is iz moved same) = ap value_text is ∙ text_object p fs
      ∙ ap (λ ts. codes "{" ++ (with_commas (in_order ts) ++ codes "}")) (fields_one fs hs same)
      ∙ ap (λ ts. codes "{" ++ (with_commas ts ++ codes "}")) (in_order_same (map object_field_text hs) (map object_field_text gs)
      (as_often (map object_field_text gs) (map object_field_text hs) (IsPermutation-map object_field_text gs hs moved)))
      ∙ sym (text_object q gs) ∙ ap value_text (sym iz)

  items_one : (xs ys : List Literal) → SameItems xs ys → map value_text xs ≡ map value_text ys
  items_one _ _ no_items = refl
  items_one (x ∷ xs) (y ∷ ys) (item h hs) =
      ap₂ (λ t ts. t ∷ ts) (value_one x y h) (items_one xs ys hs)

  fields_one : (fs gs : List ObjectField) → SameFields fs gs
      → map object_field_text fs ≡ map object_field_text gs
  fields_one _ _ no_fields = refl
  fields_one (f ∷ fs) (g ∷ gs) (field n h hs) =
      ap₂ (λ t ts. t ∷ ts) (ap₂ (λ m v. m ++ (codes ":" ++ v)) n (value_one f.value g.value h)) (fields_one fs gs hs)

-- ---- the same arguments

argument_one : (x y : Argument) → SameArgument x y → argument_text x ≡ argument_text y
argument_one x y h =
    ap₂ (λ m v. m ++ (codes ":" ++ v)) h.same_name (value_one x.value y.value h.same_value)

-- a member is the first or one of the others
pub contains_cases : (x y : Argument) (xs : List Argument) → Contains (y ∷ xs) x
    → (x ≡ y) ⊎ Contains xs x
contains_cases x y xs (zero, lt, e) = inl (sym e)
contains_cases x y xs (suc k, lt, e) = inr (k, omega arith, e)

abbrev texts : List Argument → List Text
texts arguments = map argument_text arguments

text_in : (x : Argument) (xs : List Argument) → Contains xs x → IsIn (argument_text x) (texts xs)
text_in x [] h = absurd (omega (arith, h.1))
text_in x (y ∷ xs) h = elim (contains_cases x y xs h) [
  | inl e ↦ inl (ap argument_text e)
  | inr g ↦ inr (text_in x xs g)
]

text_from : (q : Text) (xs : List Argument) → IsIn q (texts xs)
    → (x : Argument) × Contains xs x × (q ≡ argument_text x)
text_from q [] h = absurd h
text_from q (x ∷ xs) (inl e) = (x, (0, omega arith, refl), e)
text_from q (x ∷ xs) (inr h) =
    let r = text_from q xs h in (r.0, (suc r.1.0, omega (arith, r.1.1), r.1.2), r.2)

other_text : (these others : List Argument) → AreAmong these others
    → (q : Text) → IsIn q (texts these) → IsIn q (texts others)
other_text these others among q h =
    let r = text_from q these h in
    let k = among r.0 r.1 in
    let e : q ≡ argument_text k.0 = r.2 ∙ argument_one r.0 k.0 k.2 in
    subst (λ t. IsIn t (texts others)) (sym e) (text_in k.0 others k.1)

pub same_calls_one : SameCallHasSameText
same_calls_one n m these others h =
    ap₂ (λ k ts. k ++ (codes "(" ++ with_commas ts)) h.same_name
    (once_same (texts these) (texts others) (other_text these others h.in_others)
    (other_text others these h.in_these))

-- ---- texts that are one

-- an argument whose text can be read back
abbrev pub IsPlainArgument : Argument → Type 0
IsPlainArgument a = IsClear a.name.text × IsPlain a.value

abbrev IsReadArgument : Argument → Type 0
IsReadArgument = IsRead argument_text IsPlainArgument SameArgument

read_argument : (a : Argument) → IsPlainArgument a → IsReadArgument a
read_argument a plain = record {
  good = plain;
  only = λ b good r s e.
      let value = read a.value b.value plain.1 good.1 in
      let k = member_read a.name.text b.name.text a.value b.value plain.0 good.0 value r s e in
      (record { same_name = k.0.0; same_value = k.0.1 }, k.1);
}

read_all : (xs : List Argument) → AllByRecursion IsPlainArgument xs
    → AllByRecursion IsReadArgument xs
read_all [] all = tt
read_all (x ∷ xs) all = (read_argument x all.0, read_all xs all.1)

of_member : (P : Argument → Type 0) (x : Argument) (xs : List Argument) → AllByRecursion P xs
    → Contains xs x → P x
of_member P x [] all h = absurd (omega (arith, h.1))
of_member P x (y ∷ xs) all h = elim (contains_cases x y xs h) [
  | inl e ↦ subst P (sym e) all.0
  | inr g ↦ of_member P x xs all.1 g
]

-- the texts of arguments, in order, are texts of such arguments
texts_of_these : (P : Argument → Type 0) (xs : List Argument) → AllByRecursion P xs
    → AllByRecursion (IsTextOf argument_text IsPlainArgument SameArgument P) (each_once (texts xs))
texts_of_these P xs all =
    all_of (IsTextOf argument_text IsPlainArgument SameArgument P) (each_once (texts xs)) (λ t h.
    texts_of_all argument_text IsPlainArgument SameArgument P xs all t (once_from t (texts xs) h))

-- arguments of the same texts are the same
among_by_texts : (these others : List Argument) → AllByRecursion IsPlainArgument these
    → AllByRecursion IsPlainArgument others → each_once (texts these) ≡ each_once (texts others)
    → AreAmong these others
among_by_texts these others good also one x h =
    let t = argument_text x in
    let first : IsIn t (each_once (texts these)) = once_to t (texts these) (text_in x these h) in
    let r = text_from t others (once_from t (texts others) (subst (λ l. IsIn t l) one first)) in
    let known = read_argument x (of_member IsPlainArgument x these good h) in
    let taken = of_member IsPlainArgument r.0 others also r.1 in
    (r.0, r.1, same_text_same argument_text IsPlainArgument SameArgument x r.0 known taken r.2)

pub one_text_same : (n m : List ℕ) (these others : List Argument) → IsClear n → IsClear m
    → AllByRecursion IsPlainArgument these → AllByRecursion IsPlainArgument others
    → call_text n these ≡ call_text m others → SameCall n these m others
one_text_same n m these others p q good also e = record {
  same_name = k.0;
  in_others = among_by_texts these others good also one;
  in_these = among_by_texts others these also good (sym one);
} where
  ts : List Text
  ts = each_once (texts these)

  us : List Text
  us = each_once (texts others)

  k : (n ≡ m) × ◌≡◌ {A = ℕ} 40 40 × (with_commas ts ≡ with_commas us)
  k = words n m 40 40 (with_commas ts) (with_commas us) p q refl refl e

  one : ts ≡ us
  one = (one_reading argument_text IsPlainArgument SameArgument
      (λ a clear r s e. no_close a.name.text (value_text a.value) r s clear.0 e)
      ts us (texts_of_these IsReadArgument these (read_all these good))
      (texts_of_these IsPlainArgument others also) [] [] (ap (λ t. t ++ (125 ∷ [])) k.2)).0
