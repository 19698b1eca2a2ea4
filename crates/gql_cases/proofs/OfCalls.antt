-- The text of a literal that a document can write can be read back, if it fits in memory. So two
-- fields with one text are the same call.
use Rattle.std.proofs.Common.{◌≡◌, ◌<◌, ◌≤◌, ◌^◌, inl, inr, ℕ, List, [], ◌∷◌, ◌++◌, length, false, All, map, refl, sym, ap, ◌∙◌, subst, arith, length-append}
use Rattle.std.specs.Prelude.{codes, decimal}
use Rattle.std.specs.List.{AllByRecursion}
use Rattle.std.proofs.lemmas.List.Elements.{All-tail}
use Rattle.std.proofs.lemmas.Slice.Eq.{bytes_eq-Decides}
use Rattle.gql_text.specs.Grammar.{IsName}
use Rattle.gql_ast.specs.declared.literal.Argument.{Argument}
use Rattle.gql_ast.specs.declared.literal.Literal.{Literal}
use Rattle.gql_ast.specs.declared.literal.ObjectField.{ObjectField}
use Rattle.gql_merge.specs.Calls.{Text, with_commas, each_once, in_order, value_text, member_text, object_field_text, argument_text, call_text, text_string, text_list, text_object}
use Rattle.gql_merge.specs.FieldNodes.{FieldInfo}
use Rattle.gql_cases.specs.SameCalls.{SharedCallIsSameCall, SameTextForSameCall}
use Rattle.gql_printed.specs.Written.{IsWritten, variable, int, float, string, boolean, null, enum, list, object, AreWritten, no_items, item, AreWrittenFields, no_fields, field}
use Rattle.gql_cases.proofs.TextsInOrder.{IsIn, in_order_to}
use Rattle.gql_cases.proofs.TextsOnce.{once_to}
use Rattle.gql_cases.proofs.ReadValues.{IsPlain, word as plain_word, string as plain_string, list as plain_list, object as plain_object, ArePlain, none as plain_none, item as plain_item, ArePlainFields, no_fields as plain_no_fields, field as plain_field}
use Rattle.gql_cases.proofs.SameTexts.{IsPlainArgument, one_text_same, same_calls_one}
use Rattle.gql_cases.proofs.WrittenWords.{name_clear, variable_word, int_word, float_word, boolean_word, null_word, enum_word}

-- ---- parts are no longer than the whole

in_commas : (q : Text) (ts : List Text) → IsIn q ts → length q ≤ length (with_commas ts)
in_commas q [] h = absurd h
in_commas q (t ∷ ts) (inl e) =
    let f : length q ≡ length t = ap length e in
    let g = length-append (t ++ (44 ∷ [])) (with_commas ts) in
    let h = length-append t (44 ∷ []) in
    omega (arith, f, g, h)
in_commas q (t ∷ ts) (inr h) =
    let f = in_commas q ts h in
    let g = length-append (t ++ (44 ∷ [])) (with_commas ts) in
    omega (arith, f, g)

-- a text fits in memory
abbrev Fits : Text → Type 0
Fits t = length t < 2 ^ 64

-- each of these texts fits
abbrev AllFit : List Text → Type 0
AllFit ts = (q : Text) → IsIn q ts → Fits q

others_fit : (t : Text) (ts : List Text) → AllFit (t ∷ ts) → AllFit ts
others_fit t ts fit q h = fit q (inr h)

string_fits : (v : List ℕ) → Fits (decimal (length v) ++ (codes "\"" ++ v)) → Fits v
string_fits v h = let f = length-append (decimal (length v)) (34 ∷ v) in omega (arith, f, h)

member_fits : (n v : List ℕ) → Fits (member_text n v) → Fits v
member_fits n v h = let f = length-append n (58 ∷ v) in omega (arith, f, h)

enclosed_fit : (a b : ℕ) (ts : List Text) → Fits (a ∷ (with_commas ts ++ (b ∷ []))) → AllFit ts
enclosed_fit a b ts h q in_it =
    let f = length-append (with_commas ts) (b ∷ []) in
    let g = in_commas q ts in_it in
    omega (arith, f, g, h)

-- ---- values

mutual
  plain : (x : Literal) → IsWritten false x → Fits (value_text x) → IsPlain x
  plain x (variable p n e c name) fit = plain_word (variable_word p n e name)
  plain x (int p t e h) fit = plain_word (int_word p t e h)
  plain x (float p t e h) fit = plain_word (float_word p t e h)
  plain x (string p v e) fit =
      plain_string p v e (string_fits v (subst Fits (ap value_text e ∙ text_string p v) fit))
  plain x (boolean p b e) fit = plain_word (boolean_word p b e)
  plain x (null p e) fit = plain_word (null_word p e)
  plain x (enum p n e h) fit = plain_word (enum_word p n e h)
  plain x (list p xs e all) fit =
      let ts = map value_text xs in
      plain_list p xs e (plain_items xs all
      (enclosed_fit 91 93 ts (subst Fits (ap value_text e ∙ text_list p xs) fit)))
  plain x (object p fs e all) fit =
      let ts = map object_field_text fs in
      let each = enclosed_fit 123 125 (in_order ts) (subst Fits (ap value_text e ∙ text_object p fs) fit) in
      plain_object p fs e (plain_fields fs all (λ q h. each q (in_order_to q ts h)))

  plain_items : (xs : List Literal) → AreWritten false xs → AllFit (map value_text xs)
      → ArePlain xs
  plain_items _ no_items fit = plain_none
  plain_items (x ∷ xs) (item h hs) fit = plain_item (plain x h (fit (value_text x) (inl refl)))
      (plain_items xs hs (others_fit (value_text x) (map value_text xs) fit))

  plain_fields : (fs : List ObjectField) → AreWrittenFields false fs
      → AllFit (map object_field_text fs) → ArePlainFields fs
  plain_fields _ no_fields fit = plain_no_fields
  plain_fields (f ∷ fs) (field name h hs) fit =
      let t = object_field_text f in
      let own = member_fits f.name.text (value_text f.value) (fit t (inl refl)) in
      plain_field (name_clear f.name.text name) (plain f.value h own)
      (plain_fields fs hs (others_fit t (map object_field_text fs) fit))

-- ---- calls

abbrev HasName : Argument → Type 0
HasName a = IsName a.name.text

abbrev HasValue : Argument → Type 0
HasValue a = IsWritten false a.value

plain_arguments : (xs : List Argument) → All HasName xs → All HasValue xs
    → AllFit (map argument_text xs) → AllByRecursion IsPlainArgument xs
plain_arguments [] names values fit = tt
plain_arguments (x ∷ xs) names values fit =
    let t = argument_text x in
    let own = member_fits x.name.text (value_text x.value) (fit t (inl refl)) in
    let name = name_clear x.name.text (names 0 x (omega arith)) in
    let value = plain x.value (values 0 x (omega arith)) own in
    let others = others_fit t (map argument_text xs) fit in
    let more_names = All-tail HasName x xs names in
    let more_values = All-tail HasValue x xs values in
    ((name, value), plain_arguments xs more_names more_values others)

call_fits : (n : List ℕ) (xs : List Argument) → Fits (call_text n xs) → AllFit (map argument_text xs)
call_fits n xs h q in_it =
    let ts = each_once (map argument_text xs) in
    let f = in_commas q ts (once_to q (map argument_text xs) in_it) in
    let g = length-append n (40 ∷ with_commas ts) in
    omega (arith, f, g, h)

pub same_text_for_same_call : SameTextForSameCall
same_text_for_same_call n m a b one other fit =
    let plain_a = plain_arguments a one.names one.values (call_fits n a fit) in (
      λ e.
          let plain_b = plain_arguments b other.names other.values (call_fits m b (subst Fits e fit)) in
          one_text_same n m a b (name_clear n one.is_name) (name_clear m other.is_name) plain_a plain_b e,
      λ h. same_calls_one n m a b h,
    )

-- ---- rule V05

pub shared_call_is_same_call : SharedCallIsSameCall
shared_call_is_same_call facts f g x y of_f of_g one other short =
    let law =
    same_text_for_same_call f.name.text g.name.text f.arguments g.arguments one other short in
    let a : x.its.call ≡ call_text f.name.text f.arguments =
    ap (λ (i : FieldInfo). i.call) of_f.is in
    let b : y.its.call ≡ call_text g.name.text g.arguments = ap (λ (i : FieldInfo). i.call) of_g.is in (
      λ e. law.0 (sym a ∙ (bytes_eq-Decides x.its.call y.its.call).0 e ∙ b),
      λ h. (bytes_eq-Decides x.its.call y.its.call).1 (a ∙ law.1 h ∙ sym b),
    )
