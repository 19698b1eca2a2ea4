-- A literal without variables that coercion brings to a value fits, if no object in it gives a field
-- twice.
use Rattle.std.proofs.Common.{◌≡◌, ◌+◌, ◌++◌, ◌&&◌, ◌||◌, ◌⊎◌, ◌≤◌, inl, inr, ℕ, zero, suc, List, [], ◌∷◌, Bool, true, false, true≢false, cond, not, if◌then◌else◌, map, flat_map, filter, find, bytes_eq, is_some, length, nat_eq, nat_lt, count_by, Option, Some, None, option_map, option_and_then, Contains, refl, ap, sym, subst, ◌∙◌, arith}
use Rattle.std.proofs.lemmas.Bool.Decides.{nat_tests}
use Rattle.std.proofs.lemmas.List.Sums.{sum_by-cons}
use Rattle.std.specs.List.{list_any}
use Rattle.gql_text.specs.declared.place.Place.{Place}
use Rattle.gql_ast.specs.declared.literal.Literal.{Literal}
use Rattle.gql_ast.specs.declared.literal.Literal.TheVariants as l
use Rattle.gql_ast.specs.declared.literal.ObjectField.{ObjectField}
use Rattle.gql_ast.specs.declared.text.Name.{Name}
use Rattle.gql_ast.specs.declared.type_system.InputValueDefinition.{InputValueDefinition}
use Rattle.gql_built_in.specs.declared.sited.Sited.{Sited}
use Rattle.gql_ast.specs.declared.rule.Rule.TheVariants as rule
use Rattle.gql_faults.specs.Names.{count_of, repeated}
use Rattle.gql_inputs.proofs.Customs.{at_named}
use Rattle.gql_inputs.proofs.Finding.{is_some_find, find_made}
use Rattle.gql_inputs.proofs.Judged.{items_misfits_is, fields_misfits_is, misfits_null, misfits_list, misfits_object}
use Rattle.gql_inputs.proofs.Repeating.{repeats_list, repeats_object}
use Rattle.gql_inputs.proofs.ValueForms.{value_variable, value_int, value_float, value_string, value_boolean, value_null, value_enum, value_list, value_object, all_fields_of}
use Rattle.gql_inputs.specs.BadValues.{bad, takes, scalar_takes_float, scalar_takes_int, of_known, where_known, never_fits, expected, single_at as bad_single, single_misfits, null_misfits, within as within_custom, within_values, within_fields, at_one, list_by as bad_list, list_misfits, item_misfits, field_by, field_misfits, is_given, is_null_given, lacks, missing, object_misfits, misfits, items_misfits, fields_misfits, is_custom_form, fits, bad_values, repeats, repeat, field_repeats}
use Rattle.gql_inputs.specs.InputTypes.{if_input, input_type, is_custom, is_custom_at, is_input, is_list, is_non_null, is_open, item_of, name_in, name_of, scalar_named}
use Rattle.gql_inputs.specs.Lookups.{InputForm, FieldForm, InputLookup, field_of, form_at, form_of, in_schema, is_required}
use Rattle.gql_inputs.specs.Numbers.{real_of}
use Rattle.gql_inputs.specs.Values as values
use Rattle.gql_inputs.specs.Values.{Value, GivenField, given_field, value_of, values_of, place_of, is_null, all_fields}
use Rattle.gql_inputs.specs.declared.bad_value.BadValue.{BadValue}
use Rattle.gql_types.specs.Parts.{sited}
use Rattle.gql_types.specs.Schemas.{type_named}
use Rattle.gql_types.specs.Written.{Written, written}
use Rattle.gql_types.specs.declared.kind.TypeKind.{TypeKind}
use Rattle.gql_types.specs.declared.kind.TypeKind.TheVariants as kind
use Rattle.gql_types.specs.declared.schema.Schema.{Schema}
use Rattle.gql_types.specs.declared.schema_type.SchemaType.{SchemaType}
use Rattle.serde_json.specs.Data as json
use Rattle.serde_json.specs.Data.{Data}
use Rattle.serde_json.specs.View.{items_of}
use Rattle.gql_coerce.specs.Coercion.{coerced, nothing, anything, Entry, are, no_object, any_entry, any_entries, defined_entry, is_defined, unless_unknown, entries_at_kind, entries_by, entries_for, once, item_at, items_from, array_of, list_by, or_null, default_of, or_default, if_given, entry_at, member_at, object_at, put_all, under, null_at, single_at, as_type, item_expected, items_expected, takes_all, given_as, one_in}
use Rattle.gql_coerce.specs.Comes.{Outcome, Comes}
use Rattle.gql_coerce.specs.Comes as comes
use Rattle.gql_coerce.specs.Fitting.{IsConstant, IsKnown, IsGoodField, HasGoodFields}
use Rattle.gql_coerce.specs.Inputs.{Single, fraction, text as string_text, truth, name as enum_name, of_int, Input, Field, literal, literal_field, firsts, may_be_list}
use Rattle.gql_coerce.specs.Laws.{is_value}
use Rattle.gql_coerce.specs.Outcomes.{Reached, value, refused, too_deep, after, within, all, some}
use Rattle.gql_coerce.specs.Scalars.{as_any, wrong_kind}
use Rattle.gql_coerce.specs.declared.refusal.Reason.{Reason}
use Rattle.gql_coerce.specs.declared.refusal.Reason.TheVariants as reason
use Rattle.gql_coerce.specs.declared.refusal.Segment.{Segment}
use Rattle.gql_coerce.specs.declared.refusal.Segment.TheVariants.{Index, Key}
use Rattle.gql_coerce.proofs.Containing.{Contains-nil, Contains-here, Contains-there, Contains-cases, Contains-map, Contains-map_from}
use Rattle.gql_coerce.proofs.FitSingles.{has_value, takes_if, Alike, at_type, int_taken, scalar_fraction, int_alike, float_alike, string_alike, boolean_alike, enum_alike}
use Rattle.gql_coerce.proofs.LiteralCases.{by_form}
use Rattle.gql_coerce.proofs.Reading.{no_level, coerced_int, coerced_float, coerced_string, coerced_boolean, coerced_null, coerced_enum, coerced_list, coerced_object}
use Rattle.gql_coerce.proofs.Reported.{stop, not_zero, none_some, bytes_same, same_bytes, has_any, found_in, any_first, given_from, no_variable, constant_items, constant_fields, may_agree, not_given, given_there, file_scalar, list_by_custom, within_values_is, within_fields_is, item_name, bad_by, custom_if, custom_of, refusal_is_reported}

-- ---- lists that are empty

abbrev starts : {A : Type 0} → List A → Bool
starts [] = false
starts (y ∷ ys) = true

pub empty_left : {A : Type 0} (xs ys : List A) → xs ++ ys ≡ [] → xs ≡ []
empty_left [] ys is = refl
empty_left (x ∷ xs) ys is = absurd (true≢false (ap starts is))

pub empty_right : {A : Type 0} (xs ys : List A) → xs ++ ys ≡ [] → ys ≡ []
empty_right xs ys is = sym (ap (λ zs. zs ++ ys) (empty_left xs ys is)) ∙ is

append_empty : {A : Type 0} (xs ys : List A) → xs ≡ [] → ys ≡ [] → xs ++ ys ≡ []
append_empty xs ys a b = ap (λ zs. zs ++ ys) a ∙ b

pub each_empty : {A B : Type 0} (f : A → List B) (xs : List A) → flat_map f xs ≡ [] → (x : A) → Contains xs x → f x ≡ []
each_empty f [] is x has = absurd (Contains-nil x has)
each_empty f (y ∷ ys) is x has = elim (Contains-cases x y ys has) [
  | inl e ↦ ap f e ∙ empty_left (f y) (flat_map f ys) is
  | inr later ↦ each_empty f ys (empty_right (f y) (flat_map f ys) is) x later
]

all_empty : {A B : Type 0} (f : A → List B) (xs : List A) → ((x : A) → Contains xs x → f x ≡ []) → flat_map f xs ≡ []
all_empty f [] each = refl
all_empty f (x ∷ xs) each = append_empty (f x) (flat_map f xs) (each x (Contains-here x xs)) (all_empty f xs (λ y has. each y (Contains-there y x xs has)))

pub none_found : {A : Type 0} (test : A → Bool) (xs : List A) → find test xs ≡ None → (x : A) → Contains xs x → test x ≡ false
none_found test [] h x has = absurd (Contains-nil x has)
none_found test (y ∷ ys) h x has = by_test (λ i later. none_found test ys i x later) (test y) refl h where
  by_test : (find test ys ≡ None → Contains ys x → test x ≡ false) → (b : Bool) → test y ≡ b → (if b then Some y else find test ys) ≡ None → test x ≡ false
  by_test rest true same i = absurd (none_some y (sym i))
  by_test rest false same i = elim (Contains-cases x y ys has) [
    | inl eq ↦ ap test eq ∙ same
    | inr later ↦ rest i later
  ]

pub none_passes : {A : Type 0} (test : A → Bool) (xs : List A) → ((x : A) → Contains xs x → test x ≡ false) → list_any test xs ≡ false
none_passes test [] each = refl
none_passes test (x ∷ xs) each = ap (λ b. b || list_any test xs) (each x (Contains-here x xs)) ∙ none_passes test xs (λ y has. each y (Contains-there y x xs has))

-- ---- parts that come to values

refused_not : (A : Type 0) (r : Reason) (path : List Segment) (x : A) → stop A r path ≡ value x → ⊥
refused_not A r path x e = true≢false (sym (ap (has_value {A = A}) e))

deep_not : {A : Type 0} (x : A) → too_deep ≡ value x → ⊥
deep_not {A} x e = true≢false (sym (ap (has_value {A = A}) e))

before : {A B : Type 0} (o : Reached A) (f : A → Reached B) (y : B) → after o f ≡ value y → (x : A) × (o ≡ value x) × (f x ≡ value y)
before (value x) f y e = (x, refl, e)
before {A} {B} (refused r path) f y e = absurd (refused_not B r path y e)
before {A} {B} too_deep f y e = absurd (deep_not {A = B} y e)

within_value : {A : Type 0} (g : Segment) (o : Reached A) (x : A) → within g o ≡ value x → o ≡ value x
within_value g (value y) x e = e
within_value {A} g (refused r path) x e = absurd (refused_not A r (g ∷ path) x e)
within_value {A} g too_deep x e = absurd (deep_not {A = A} x e)

all_values : {A X : Type 0} (f : X → Reached A) (xs : List X) (ys : List A) → all (map f xs) ≡ value ys → (x : X) → Contains xs x → (y : A) × (f x ≡ value y)
all_values f [] ys e x has = absurd (Contains-nil x has)
all_values {A} f (z ∷ zs) ys e x has =
    let first = before (f z) (λ y. after (all (map f zs)) (λ more. value (y ∷ more))) ys e in
    let rest = before (all (map f zs)) (λ more. value (first.0 ∷ more)) ys first.2 in
    by_cases (λ more at later. all_values f zs more at x later) first.0 first.1 rest.0 rest.1 (Contains-cases x z zs has) where
      by_cases : ((more : List A) → all (map f zs) ≡ value more → Contains zs x → (y : A) × (f x ≡ value y)) → (y : A) → f z ≡ value y → (more : List A) → all (map f zs) ≡ value more → (x ≡ z) ⊎ Contains zs x → (y : A) × (f x ≡ value y)
      by_cases further y at more rest (inl same) = (y, ap f same ∙ at)
      by_cases further y at more rest (inr later) = further more rest later

item_values : (f : Input → Reached Data) (g : Literal → Input) (xs : List Literal) (m : ℕ) (ys : List Data) → all (items_from f m (map g xs)) ≡ value ys
    → (x : Literal) → Contains xs x → (y : Data) × (f (g x) ≡ value y)
item_values f g [] m ys e x has = absurd (Contains-nil x has)
item_values f g (z ∷ zs) m ys e x has =
    let first = before (within (Index m) (f (g z))) (λ y. after (all (items_from f (suc m) (map g zs))) (λ more. value (y ∷ more))) ys e in
    let rest = before (all (items_from f (suc m) (map g zs))) (λ more. value (first.0 ∷ more)) ys first.2 in
    by_cases (λ more at later. item_values f g zs (suc m) more at x later) first.0 (within_value (Index m) (f (g z)) first.0 first.1) rest.0 rest.1 (Contains-cases x z zs has) where
      by_cases : ((more : List Data) → all (items_from f (suc m) (map g zs)) ≡ value more → Contains zs x → (y : Data) × (f (g x) ≡ value y)) → (y : Data) → f (g z) ≡ value y → (more : List Data) → all (items_from f (suc m) (map g zs)) ≡ value more → (x ≡ z) ⊎ Contains zs x → (y : Data) × (f (g x) ≡ value y)
      by_cases further y at more rest (inl same) = (y, ap (λ w. f (g w)) same ∙ at)
      by_cases further y at more rest (inr later) = further more rest later

some_value : {A : Type 0} (o : Reached A) (v : Option A) → some o ≡ value v → (x : A) × (o ≡ value x)
some_value o v e = let part = before o (λ x. value (Some x)) v e in (part.0, part.1)

once_value : (e : Option Written) (o : Reached (Option Data)) (v : Option Data) → once e o ≡ value v → (w : Option Data) × (o ≡ value w)
once_value None o v is = (v, is)
once_value (Some t) o v is = let part = before o (λ w. value (option_map (one_in t) w)) v is in (part.0, part.1)

-- ---- no object gives a field twice

-- two of a list that pass are one, where at most one passes
module _ {A : Type 0} (test : A → Bool) where
  one_more : (y : A) (ys : List A) → count_by test (y ∷ ys) ≡ cond (test y) 1 0 + count_by test ys
  one_more y ys = sum_by-cons (λ (z : A). cond (test z) 1 0) y ys

  some_count : (x : A) (xs : List A) → Contains xs x → test x ≡ true → 1 ≤ count_by test xs
  some_count x [] has is = absurd (Contains-nil x has)
  some_count x (y ∷ ys) has is = elim (Contains-cases x y ys has) [
    | inl e ↦ subst (λ n. 1 ≤ n) (sym (one_more y ys)) (by_test (test y) (ap test (sym e) ∙ is))
    | inr later ↦ subst (λ n. 1 ≤ n) (sym (one_more y ys)) (more (test y) (some_count x ys later is))
  ] where
    by_test : (b : Bool) → b ≡ true → 1 ≤ cond b 1 0 + count_by test ys
    by_test true e = omega arith
    by_test false e = absurd (true≢false (sym e))

    more : (b : Bool) → 1 ≤ count_by test ys → 1 ≤ cond b 1 0 + count_by test ys
    more true h = omega (arith, h)
    more false h = omega (arith, h)

  too_many : (n : ℕ) → 1 ≤ n → cond true 1 0 + n ≤ 1 → ⊥
  too_many n a b = omega (arith, a, b)

  fewer : (b : Bool) (n : ℕ) → cond b 1 0 + n ≤ 1 → n ≤ 1
  fewer true n h = omega (arith, h)
  fewer false n h = omega (arith, h)

  pub at_most_one : (xs : List A) → count_by test xs ≤ 1 → (x y : A) → Contains xs x → Contains xs y → test x ≡ true → test y ≡ true → x ≡ y
  at_most_one [] few x y a b p q = absurd (Contains-nil x a)
  at_most_one (z ∷ zs) few x y a b p q = by_cases (λ u v. at_most_one zs (fewer (test z) (count_by test zs) (subst (λ n. n ≤ 1) (one_more z zs) few)) x y u v p q) (Contains-cases x z zs a) (Contains-cases y z zs b) where
    first : (w : A) → w ≡ z → test w ≡ true → cond true 1 0 + count_by test zs ≤ 1
    first w e is = subst (λ c. cond c 1 0 + count_by test zs ≤ 1) (ap test (sym e) ∙ is) (subst (λ n. n ≤ 1) (one_more z zs) few)

    by_cases : (Contains zs x → Contains zs y → x ≡ y) → (x ≡ z) ⊎ Contains zs x → (y ≡ z) ⊎ Contains zs y → x ≡ y
    by_cases rest (inl e) (inl f) = e ∙ sym f
    by_cases rest (inl e) (inr later) = absurd (too_many (count_by test zs) (some_count y zs later q) (first x e p))
    by_cases rest (inr later) (inl f) = absurd (too_many (count_by test zs) (some_count x zs later p) (first y f q))
    by_cases rest (inr u) (inr v) = rest u v

pub count_made : {A B : Type 0} (f : A → B) (test : B → Bool) (xs : List A) → count_by test (map f xs) ≡ count_by (λ x. test (f x)) xs
count_made f test [] = refl
count_made f test (x ∷ xs) = one_more test (f x) (map f xs) ∙ ap (λ n. cond (test (f x)) 1 0 + n) (count_made f test xs) ∙ sym (one_more (λ y. test (f y)) x xs)

pub no_filtered : {A : Type 0} (test : A → Bool) (xs : List A) → filter test xs ≡ [] → (x : A) → Contains xs x → test x ≡ false
no_filtered test [] is x has = absurd (Contains-nil x has)
no_filtered test (y ∷ ys) is x has = by_test (λ h later. no_filtered test ys h x later) (test y) refl is where
  by_test : (filter test ys ≡ [] → Contains ys x → test x ≡ false) → (b : Bool) → test y ≡ b → (if b then y ∷ filter test ys else filter test ys) ≡ [] → test x ≡ false
  by_test rest true e h = absurd (true≢false (ap starts h))
  by_test rest false e h = elim (Contains-cases x y ys has) [
    | inl same ↦ ap test same ∙ e
    | inr later ↦ rest h later
  ]

no_repeated : (ns : List (Sited Name)) → flat_map repeat ns ≡ [] → ns ≡ []
no_repeated [] is = refl
no_repeated (n ∷ ns) is = absurd (true≢false (ap starts is))

abbrev as_name : ObjectField → Sited Name
as_name f = record { file = None; node = f.name }

abbrev names_in : List ObjectField → List (Sited Name)
names_in fs = sited None (map (λ (f : GivenField). f.name) (map given_field fs))

-- the fields of an object differ in their names
pub unique : (fs : List ObjectField) → field_repeats (map given_field fs) ≡ [] → (g h : ObjectField) → Contains fs g → Contains fs h → g.name.text ≡ h.name.text → g ≡ h
unique fs is g h a b same = at_most_one (λ (f : ObjectField). bytes_eq g.name.text f.name.text) fs (few (count_by (λ (f : ObjectField). bytes_eq g.name.text f.name.text) fs) not_more) g h a b
    (bytes_same g.name.text g.name.text refl) (bytes_same g.name.text h.name.text same) where
      names_are : (gs : List ObjectField) → sited None (map (λ (f : GivenField). f.name) (map given_field gs)) ≡ map as_name gs
      names_are [] = refl
      names_are (f ∷ gs) = ap (λ (ns : List (Sited Name)). as_name f ∷ ns) (names_are gs)

      not_more : nat_lt 1 (count_by (λ (f : ObjectField). bytes_eq g.name.text f.name.text) fs) ≡ false
      not_more = ap (nat_lt 1) (sym (ap (count_by (λ (n : Sited Name). bytes_eq g.name.text n.node.text)) (names_are fs) ∙ count_made as_name (λ (n : Sited Name). bytes_eq g.name.text n.node.text) fs))
          ∙ no_filtered (λ (n : Sited Name). nat_lt 1 (count_of n.node.text (names_in fs))) (names_in fs) (no_repeated (repeated (names_in fs)) is) (as_name g)
          (subst (λ ns. Contains ns (as_name g)) (sym (names_are fs)) (Contains-map as_name fs g a))

      few : (n : ℕ) → nat_lt 1 n ≡ false → n ≤ 1
      few n e = grind (arith, nat_tests, e)

-- ---- at a type

module _ (s : Schema) where
  abbrev look : InputLookup
  look = in_schema s

  abbrev NoRepeats : Literal → Type 0
  NoRepeats x = repeats (value_of x) ≡ []

  abbrev AtType : ℕ → Type 0
  AtType n = (vs : Data) (x : Literal) → IsConstant x → NoRepeats x → (t : Written) → IsKnown s t → (v : Option Data)
      → coerced n s (literal vs x) (Some t) ≡ value v → misfits look t (value_of x) ≡ []

  abbrev InCustom : ℕ → Type 0
  InCustom n = (vs : Data) (x : Literal) → IsConstant x → NoRepeats x → (name : List ℕ) (v : Option Data)
      → coerced n s (literal vs x) None ≡ value v → within_custom (file_scalar s) name (value_of x) ≡ []

  pub item_no_repeats : (p : Place) (xs : List Literal) → NoRepeats (l.List p xs) → (x : Literal) → Contains xs x → NoRepeats x
  item_no_repeats p xs is x has = each_empty (λ (y : Literal). repeats (value_of y)) xs (sym (repeats_list p xs) ∙ is) x has

  pub field_no_repeats : (p : Place) (fs : List ObjectField) → NoRepeats (l.Object p fs) → (f : ObjectField) → Contains fs f → NoRepeats f.value
  field_no_repeats p fs is f has = each_empty (λ (g : ObjectField). repeats (value_of g.value)) fs
      (empty_right (field_repeats (map given_field fs)) (flat_map (λ (g : ObjectField). repeats (value_of g.value)) fs) (sym (repeats_object p fs) ∙ is)) f has

  known_empty : (f : InputForm → List BadValue) (o : Option InputForm) → ((i : InputForm) → o ≡ Some i → f i ≡ []) → of_known f o ≡ []
  known_empty f None each = refl
  known_empty f (Some i) each = each i refl

  single_fits : (x : Value) (y : Single) → Alike x y → (t : Written) → IsKnown s t → (v : Option Data)
      → once (Some t) (some (single_at s (Some t) y)) ≡ value v → single_misfits look t x ≡ []
  single_fits x y alike t known v e =
      let once_is = once_value (Some t) (some (as_type (is_open s) (input_type s t) y)) v e in
      let at = some_value (as_type (is_open s) (input_type s t) y) once_is.0 once_is.1 in
      let taken : takes_if x (look (name_in t)) ≡ true = at_type x y alike (is_open s) (type_named s (name_in t)) ∙ ap has_value at.1 in
      known_empty (bad_single t x) (look (name_in t)) (λ i has. by_test (takes x i) i (sym (ap (takes_if x) has) ∙ taken)) where
        by_test : (b : Bool) (i : InputForm) → b ≡ true → (if b then [] else bad rule.V18 (place_of x) (expected t i)) ≡ []
        by_test true i h = refl
        by_test false i h = absurd (true≢false (sym h))

  null_fits : (p : Place) (t : Written) (v : Option Data) → some (null_at (Some t)) ≡ value v → null_misfits look p t ≡ []
  null_fits p t v e = by_mark (is_non_null t) (some_value (null_at (Some t)) v e).0 (some_value (null_at (Some t)) v e).1 where
    by_mark : (b : Bool) (d : Data) → (if b then stop Data reason.NullForNonNull [] else value json.null) ≡ value d → (if b then never_fits look p t else []) ≡ []
    by_mark true d is = absurd (refused_not Data reason.NullForNonNull [] d is)
    by_mark false d is = refl

  any_single_fits : (y : Single) (b : Bool) → b ≡ has_value (as_any (is_open s) y) → (v : Option Data) → some (as_any (is_open s) y) ≡ value v
      → (bs : List BadValue) → (if b then [] else bs) ≡ []
  any_single_fits y b same v e bs =
      let at = some_value (as_any (is_open s) y) v e in
      ap (λ c. if c then [] else bs) (same ∙ ap has_value at.1)

  custom_fits : (t : Written) → (inside other : List BadValue) (b : Bool) → takes_all (input_type s t) ≡ b
      → (b ≡ true → inside ≡ []) → (b ≡ false → other ≡ [])
      → where_known look t (λ i. if is_custom_form i then inside else other) ≡ []
  custom_fits t inside other b is so nr = known_empty (λ i. if is_custom_form i then inside else other) (look (name_in t))
      (λ i has. by_custom (is_custom_form i) (sym (ap (custom_if s) has) ∙ sym (custom_of s (type_named s (name_in t))) ∙ is)) where
        by_custom : (c : Bool) → c ≡ b → (if c then inside else other) ≡ []
        by_custom true e = so (sym e)
        by_custom false e = nr (sym e)

  -- null comes to no value of a Non-Null type
  null_value : (n : ℕ) (vs : Data) (t : Written) → is_non_null t ≡ true → (x : Literal) → is_null (value_of x) ≡ true → (v : Option Data)
      → coerced n s (literal vs x) (Some t) ≡ value v → ⊥
  null_value zero vs t needed x is v e = deep_not v (sym (no_level s (literal vs x) (Some t)) ∙ e)
  null_value (suc n) vs t needed x is v e = by_form (λ y. is_null (value_of y) ≡ true → coerced (suc n) s (literal vs y) (Some t) ≡ value v → ⊥) record {
    object = λ p fs h i. true≢false (sym h ∙ ap is_null (value_object p fs));
    list = λ p xs h i. true≢false (sym h ∙ ap is_null (value_list p xs));
    variable = λ p w h i. true≢false (sym h ∙ ap is_null (value_variable p w));
    int = λ p w h i. true≢false (sym h ∙ ap is_null (value_int p w));
    float = λ p w h i. true≢false (sym h ∙ ap is_null (value_float p w));
    string = λ p w h i. true≢false (sym h ∙ ap is_null (value_string p w));
    boolean = λ p b h i. true≢false (sym h ∙ ap is_null (value_boolean p b));
    null = λ p h i. let d = some_value (null_at (Some t)) v (sym (coerced_null n s (Some t) vs p) ∙ i) in
        refused_not Data reason.NullForNonNull [] d.0 (subst (λ b. (if b then stop Data reason.NullForNonNull [] else value json.null) ≡ value d.0) needed d.1);
    enum = λ p w h i. true≢false (sym h ∙ ap is_null (value_enum p w));
  } x is e

  -- ---- lists

  item_fits : (n : ℕ) → AtType n → (vs : Data) (x : Literal) → IsConstant x → NoRepeats x → (item : Written) → IsKnown s item → (d : Data)
      → item_at (coerced n s) (Some item) (literal vs x) ≡ value d → item_misfits look item (value_of x) ≡ []
  item_fits n each vs x is nr item known d e =
      subst (λ m. (if is_list item && not m then never_fits look (place_of (value_of x)) item else misfits look item (value_of x)) ≡ []) (may_agree vs x)
      (by_form_of (is_list item && not (may_be_list (literal vs x))) e) where
        by_form_of : (b : Bool) → (if b then wrong_kind else after (coerced n s (literal vs x) (Some item)) (or_null (Some item))) ≡ value d
            → (if b then never_fits look (place_of (value_of x)) item else misfits look item (value_of x)) ≡ []
        by_form_of true h = absurd (refused_not Data reason.WrongKind [] d h)
        by_form_of false h = let part = before (coerced n s (literal vs x) (Some item)) (or_null (Some item)) d h in each vs x is nr item known part.0 part.1

  any_item_fits : (n : ℕ) → InCustom n → (vs : Data) (x : Literal) → IsConstant x → NoRepeats x → (name : List ℕ) (d : Data)
      → item_at (coerced n s) None (literal vs x) ≡ value d → within_custom (file_scalar s) name (value_of x) ≡ []
  any_item_fits n each vs x is nr name d e = let part = before (coerced n s (literal vs x) None) (or_null None) d e in each vs x is nr name part.0 part.1

  array_fits : (n : ℕ) (vs : Data) (xs : List Literal) (of : Literal → List BadValue) (e : Option Written) (d : Data)
      → ((x : Literal) → Contains xs x → (d : Data) → item_at (coerced n s) e (literal vs x) ≡ value d → of x ≡ [])
      → array_of (item_at (coerced n s) e) (map (literal vs) xs) ≡ value d → flat_map of xs ≡ []
  array_fits n vs xs of e d each is =
      let part = before (all (items_from (item_at (coerced n s) e) 0 (map (literal vs) xs))) (λ ds. value (json.array (items_of ds))) d is in
      all_empty of xs (λ x has. let item = item_values (item_at (coerced n s) e) (literal vs) xs 0 part.0 part.1 x has in each x has item.0 item.1)

  any_list_fits : (n : ℕ) → InCustom n → (vs : Data) (p : Place) (xs : List Literal) → IsConstant (l.List p xs) → NoRepeats (l.List p xs) → (name : List ℕ) (d : Data)
      → array_of (item_at (coerced n s) None) (map (literal vs) xs) ≡ value d → within_values (file_scalar s) name (values_of (map value_of xs)) ≡ []
  any_list_fits n each vs p xs is nr name d e = within_values_is s name xs ∙ array_fits n vs xs (λ x. within_custom (file_scalar s) name (value_of x)) None d
      (λ x has c i. any_item_fits n each vs x (constant_items p xs is x has) (item_no_repeats p xs nr x has) name c i) e

  list_fits : (n : ℕ) → AtType n → InCustom n → (vs : Data) (p : Place) (xs : List Literal) → IsConstant (l.List p xs) → NoRepeats (l.List p xs) → (t : Written) → IsKnown s t → (d : Data)
      → list_by (coerced n s) (map (literal vs) xs) (items_expected s (Some t)) ≡ value d → list_misfits look p t (values_of (map value_of xs)) ≡ []
  list_fits n at_types in_customs vs p xs is nr t known d e = by_item (item_of t) refl e where
    by_item : (o : Option Written) → item_of t ≡ o → list_by (coerced n s) (map (literal vs) xs) (item_expected (input_type s t) o) ≡ value d
        → bad_list look p t (λ k name. within_values k name (values_of (map value_of xs))) (λ item. items_misfits look item (values_of (map value_of xs))) o ≡ []
    by_item (Some item) same h = items_misfits_is look item xs ∙ array_fits n vs xs (λ (x : Literal). item_misfits look item (value_of x)) (Some item) d
        (λ x has c i. item_fits n at_types vs x (constant_items p xs is x has) (item_no_repeats p xs nr x has) item (subst (λ m. is_some (look m) ≡ true) (sym (item_name s t item same)) known) c i) h
    by_item None same h = list_by_custom s p t (λ k name. within_values k name (values_of (map value_of xs)))
        ∙ custom_fits t (within_values (file_scalar s) (name_in t) (values_of (map value_of xs))) (at_one p t) (takes_all (input_type s t)) refl
        (λ so. any_list_fits n in_customs vs p xs is nr (name_in t) d (subst (λ b. list_by (coerced n s) (map (literal vs) xs) (if b then anything else nothing) ≡ value d) so h))
        (λ off. absurd (refused_not Data reason.WrongKind [] d (subst (λ b. list_by (coerced n s) (map (literal vs) xs) (if b then anything else nothing) ≡ value d) off h)))

  -- ---- objects

  member_value : (inner : Input → Option Written → Reached (Option Data)) (es : List Entry) (d : Data) → object_at inner (are es) ≡ value d
      → (m : Entry) → Contains es m → (v : Option Data) × (entry_at inner m ≡ value v)
  member_value inner es d e m has =
      let part = before (all (map (member_at inner) es)) (λ more. value (json.object (put_all more json.no_members))) d e in
      let member = all_values (member_at inner) es part.0 part.1 m has in
      let entry = before (entry_at inner m) (λ v. value (under m.name v)) member.0 member.1 in
      (entry.0, entry.1)

  -- a field whose name is given first, if it is given
  module _ (vs : Data) (fs : List ObjectField) where
    abbrev inputs : List Field
    inputs = firsts (map (literal_field vs) fs)

    -- the first field of its name
    first_of : (g : ObjectField) → Contains fs g → (f : Field) × Contains inputs f × (bytes_eq g.name.text f.name ≡ true)
    first_of g has = by_found (find (λ (f : Field). bytes_eq g.name.text f.name) inputs) refl
        (is_some_find (λ (f : Field). bytes_eq g.name.text f.name) inputs ∙ any_first g.name.text (map (literal_field vs) fs)
        ∙ has_any (λ (f : Field). bytes_eq g.name.text f.name) (literal_field vs g) (map (literal_field vs) fs) (Contains-map (literal_field vs) fs g has) (bytes_same g.name.text g.name.text refl)) where
          by_found : (o : Option Field) → find (λ (f : Field). bytes_eq g.name.text f.name) inputs ≡ o → is_some o ≡ true → (f : Field) × Contains inputs f × (bytes_eq g.name.text f.name ≡ true)
          by_found None e h = absurd (true≢false (sym h))
          by_found (Some f) e h = let there = found_in (λ (f : Field). bytes_eq g.name.text f.name) inputs f e in (f, there.0, there.1)

  any_object_fits : (n : ℕ) → InCustom n → (vs : Data) (p : Place) (fs : List ObjectField) → IsConstant (l.Object p fs) → NoRepeats (l.Object p fs) → (name : List ℕ) (d : Data)
      → object_at (coerced n s) (any_entries (firsts (map (literal_field vs) fs))) ≡ value d → within_fields (file_scalar s) name (values.fields_of (map given_field fs)) ≡ []
  any_object_fits n each vs p fs is nr name d e = within_fields_is s name fs ∙ all_empty (λ (f : ObjectField). within_custom (file_scalar s) name (value_of f.value)) fs (λ g has. by_first g has (first_of vs fs g has)) where
    by_field : (g : ObjectField) → Contains fs g → (v : Option Data) → entry_at (coerced n s) (any_entry (literal_field vs g)) ≡ value v → within_custom (file_scalar s) name (value_of g.value) ≡ []
    by_field g has v h =
        let part = before (within (Key g.name.text) (coerced n s (literal vs g.value) None)) (or_default (coerced n s) g.name.text None) v h in
        each vs g.value (constant_fields p fs is g has) (field_no_repeats p fs nr g has) name part.0 (within_value (Key g.name.text) (coerced n s (literal vs g.value) None) part.0 part.1)

    by_first : (g : ObjectField) → Contains fs g → (f : Field) × Contains (firsts (map (literal_field vs) fs)) f × (bytes_eq g.name.text f.name ≡ true) → within_custom (file_scalar s) name (value_of g.value) ≡ []
    by_first g has first =
        let made = given_from vs fs first.0 first.1 in
        let same : g ≡ made.0 = unique fs (empty_left (field_repeats (map given_field fs)) (flat_map (λ (h : ObjectField). repeats (value_of h.value)) fs) (sym (repeats_object p fs) ∙ nr)) g made.0 has made.1
        (same_bytes g.name.text first.0.name first.2 ∙ sym (ap (λ (f : Field). f.name) made.2)) in
        let member = member_value (coerced n s) (map any_entry (firsts (map (literal_field vs) fs))) d e (any_entry first.0) (Contains-map any_entry (firsts (map (literal_field vs) fs)) first.0 first.1) in
        by_field g has member.0 (ap (λ (f : Field). entry_at (coerced n s) (any_entry f)) (ap (literal_field vs) same ∙ made.2) ∙ member.1)

  module _ (n : ℕ) (at_types : AtType n) (vs : Data) (p : Place) (fs : List ObjectField) (is : IsConstant (l.Object p fs)) (nr : NoRepeats (l.Object p fs)) (st : SchemaType)
      (good : (d : Sited InputValueDefinition) → Contains st.input_fields d → IsGoodField s st d) (whole : Data) where
    abbrev given : List GivenField
    given = map given_field fs

    abbrev forms : List FieldForm
    forms = map field_of st.input_fields

    only : (g h : ObjectField) → Contains fs g → Contains fs h → g.name.text ≡ h.name.text → g ≡ h
    only = unique fs (empty_left (field_repeats given) (flat_map (λ (h : ObjectField). repeats (value_of h.value)) fs) (sym (repeats_object p fs) ∙ nr))

    abbrev Members : Type 0
    Members = (d : Sited InputValueDefinition) → Contains st.input_fields d
        → (v : Option Data) × (entry_at (coerced n s) (defined_entry (inputs vs fs) d) ≡ value v)

    -- what is given for a name is the field of the name
    given_is : (name : List ℕ) (g : ObjectField) → Contains fs g → name ≡ g.name.text → given_as name (inputs vs fs) ≡ Some (literal vs g.value)
    given_is name g has same = by_found (given_as name (inputs vs fs)) refl where
      by_found : (o : Option Input) → given_as name (inputs vs fs) ≡ o → given_as name (inputs vs fs) ≡ Some (literal vs g.value)
      by_found None e = absurd (true≢false (sym (has_any (λ (h : GivenField). bytes_eq name h.name.text) (given_field g) given (Contains-map given_field fs g has) (bytes_same name g.name.text same)) ∙ not_given vs name fs e))
      by_found (Some y) e = let there = given_there vs name fs y e in
          e ∙ ap Some (sym there.2) ∙ ap (λ (h : ObjectField). Some (literal vs h.value)) (only there.0 g there.1 has (sym there.3 ∙ same))

    -- the value of a field that is given
    given_value : Members → (d : Sited InputValueDefinition) → Contains st.input_fields d → (g : ObjectField) → Contains fs g → d.node.name.text ≡ g.name.text
        → (v : Option Data) × (coerced n s (literal vs g.value) (Some (written d.node.of_type)) ≡ value v)
    given_value members d has g there same =
        let member = members d has in
        let part = before (within (Key d.node.name.text) (coerced n s (literal vs g.value) (Some (written d.node.of_type)))) (or_default (coerced n s) d.node.name.text (Some d.node)) member.0
        (subst (λ o. after (if_given (coerced n s) d.node.name.text (Some d.node) o) (or_default (coerced n s) d.node.name.text (Some d.node)) ≡ value member.0) (given_is d.node.name.text g there same) member.1) in
        (part.0, within_value (Key d.node.name.text) (coerced n s (literal vs g.value) (Some (written d.node.of_type))) part.0 part.1)

    field_fits : Members → (g : ObjectField) → Contains fs g → is_defined st.input_fields (literal_field vs g) ≡ true → field_misfits look forms (given_field g) ≡ []
    field_fits members g has known = by_found (find (λ (d : Sited InputValueDefinition). bytes_eq g.name.text d.node.name.text) st.input_fields) refl known where
      by_null : (d : Sited InputValueDefinition) → misfits look (written d.node.of_type) (value_of g.value) ≡ [] → (b : Bool) → (if b then [] else misfits look (written d.node.of_type) (value_of g.value)) ≡ []
      by_null d e true = refl
      by_null d e false = e

      by_found : (o : Option (Sited InputValueDefinition)) → find (λ (d : Sited InputValueDefinition). bytes_eq g.name.text d.node.name.text) st.input_fields ≡ o → is_some o ≡ true → field_misfits look forms (given_field g) ≡ []
      by_found None e h = absurd (true≢false (sym h))
      by_found (Some d) e h =
          let there = found_in (λ (d : Sited InputValueDefinition). bytes_eq g.name.text d.node.name.text) st.input_fields d e in
          let same = same_bytes g.name.text d.node.name.text there.1 in
          let v = given_value members d there.0 g has (sym same) in
          ap (field_by g.name (value_of g.value) (λ t. misfits look t (value_of g.value))) (find_made field_of (λ (f : FieldForm). bytes_eq g.name.text f.name) st.input_fields ∙ ap (option_map field_of) e)
          ∙ by_null d (at_types vs g.value (constant_fields p fs is g has) (field_no_repeats p fs nr g has) (written d.node.of_type) (good d there.0).known v.0 v.1) (is_null (value_of g.value) && is_required (field_of d))

    abbrev lacking : Sited InputValueDefinition → Bool
    lacking d = lacks (is_given given d.node.name.text) (is_null_given given d.node.name.text)

    -- a required field is there, and not null
    missing_fits : Members → (d : Sited InputValueDefinition) → Contains st.input_fields d → missing p given (field_of d) ≡ []
    missing_fits members d has = by_required (is_non_null (written d.node.of_type)) refl d.node.default refl where
      left_out : (b : Bool) → b ≡ false → (if b then bad rule.V21 p d.node.name.text else []) ≡ []
      left_out true e = absurd (true≢false e)
      left_out false e = refl

      and_false : (a : Bool) {b : Bool} → b ≡ false → a && b ≡ false
      and_false true e = e
      and_false false e = refl

      not_lacking : is_non_null (written d.node.of_type) ≡ true → d.node.default ≡ None → lacking d ≡ false
      not_lacking needed none = by_given (given_as d.node.name.text (inputs vs fs)) refl where
        by_given : (o : Option Input) → given_as d.node.name.text (inputs vs fs) ≡ o → lacking d ≡ false
        by_given None e =
            let member = members d has in
            absurd (refused_not (Option Data) reason.MissingField (Key d.node.name.text ∷ []) member.0
            (subst (λ b. (if b then stop (Option Data) reason.MissingField (Key d.node.name.text ∷ []) else value None) ≡ value member.0) needed
            (subst (λ o. default_of (coerced n s) d.node.name.text (written d.node.of_type) o ≡ value member.0) none
            (subst (λ o. after (if_given (coerced n s) d.node.name.text (Some d.node) o) (or_default (coerced n s) d.node.name.text (Some d.node)) ≡ value member.0) e member.1))))
        by_given (Some y) e =
            let there = given_there vs d.node.name.text fs y e in
            ap (λ b. not b || is_null_given given d.node.name.text) (has_any (λ (h : GivenField). bytes_eq d.node.name.text h.name.text) (given_field there.0) given (Contains-map given_field fs there.0 there.1) (bytes_same d.node.name.text there.0.name.text there.3))
            ∙ no_null there.0 there.1 there.3 where
              no_null : (g : ObjectField) → Contains fs g → d.node.name.text ≡ g.name.text → is_null_given given d.node.name.text ≡ false
              no_null g at same = none_passes (λ (h : GivenField). bytes_eq d.node.name.text h.name.text && is_null h.value) given (λ h in_given. by_field h in_given) where
                by_field : (h : GivenField) → Contains given h → bytes_eq d.node.name.text h.name.text && is_null h.value ≡ false
                by_field h in_given = let f = Contains-map_from given_field fs h in_given in
                    subst (λ (k : GivenField). bytes_eq d.node.name.text k.name.text && is_null k.value ≡ false) f.2 (by_name (bytes_eq d.node.name.text f.0.name.text) f.0 f.1 refl) where
                      not_null : (b : Bool) (k : ObjectField) → Contains fs k → d.node.name.text ≡ k.name.text → is_null (value_of k.value) ≡ b → b ≡ false
                      not_null true k in_fs eq null_is = let v = given_value members d has k in_fs eq in
                          absurd (null_value n vs (written d.node.of_type) needed k.value null_is v.0 v.1)
                      not_null false k in_fs eq null_is = refl

                      by_name : (b : Bool) (k : ObjectField) → Contains fs k → bytes_eq d.node.name.text k.name.text ≡ b → b && is_null (value_of k.value) ≡ false
                      by_name true k in_fs eq = not_null (is_null (value_of k.value)) k in_fs (same_bytes d.node.name.text k.name.text eq) refl
                      by_name false k in_fs eq = refl

      by_required : (b : Bool) → is_non_null (written d.node.of_type) ≡ b → (o : Option Literal) → d.node.default ≡ o → missing p given (field_of d) ≡ []
      by_required false nullable o e = left_out (is_required (field_of d) && lacking d) (ap (λ b. (b && not (is_some d.node.default)) && lacking d) nullable)
      by_required true needed (Some y) e = left_out (is_required (field_of d) && lacking d) (ap (λ c. (is_non_null (written d.node.of_type) && not (is_some c)) && lacking d) e ∙ ap (λ b. b && lacking d) (and_false (is_non_null (written d.node.of_type)) refl))
      by_required true needed None e = left_out (is_required (field_of d) && lacking d) (and_false (is_required (field_of d)) (not_lacking needed e))

    object_fits : (o : Option Field) → find (λ (f : Field). not (is_defined st.input_fields f)) (inputs vs fs) ≡ o
        → object_at (coerced n s) (unless_unknown o (are (map (defined_entry (inputs vs fs)) st.input_fields))) ≡ value whole
        → fields_misfits look forms (values.fields_of given) ++ flat_map (missing p (all_fields (values.fields_of given))) forms ≡ []
    object_fits (Some f) first e = absurd (refused_not Data reason.UnknownField (Key f.name ∷ []) whole e)
    object_fits None first e = append_empty (fields_misfits look forms (values.fields_of given)) (flat_map (missing p (all_fields (values.fields_of given))) forms)
        (fields_misfits_is look forms given ∙ all_empty (field_misfits look forms) given
        (λ h has. let g = Contains-map_from given_field fs h has in subst (λ k. field_misfits look forms k ≡ []) g.2 (field_fits members g.0 g.1 (defined g.0 g.1))))
        (ap (λ gs. flat_map (missing p gs) forms) (all_fields_of given) ∙ all_empty (missing p given) forms
        (λ f has. let d = Contains-map_from field_of st.input_fields f has in subst (λ k. missing p given k ≡ []) d.2 (missing_fits members d.0 d.1))) where
          members : Members
          members d has = member_value (coerced n s) (map (defined_entry (inputs vs fs)) st.input_fields) whole e (defined_entry (inputs vs fs) d) (Contains-map (defined_entry (inputs vs fs)) st.input_fields d has)

          double : (b : Bool) → not b ≡ false → b ≡ true
          double true i = refl
          double false i = absurd (true≢false i)

          defined : (g : ObjectField) → Contains fs g → is_defined st.input_fields (literal_field vs g) ≡ true
          defined g has = let f = first_of vs fs g has in
              ap (λ m. is_some (find (λ (d : Sited InputValueDefinition). bytes_eq m d.node.name.text) st.input_fields)) (same_bytes g.name.text f.0.name f.2)
              ∙ double (is_defined st.input_fields f.0) (none_found (λ (f : Field). not (is_defined st.input_fields f)) (inputs vs fs) first f.0 f.1)

  object_at_type : HasGoodFields s → (n : ℕ) → AtType n → InCustom n → (vs : Data) (p : Place) (fs : List ObjectField) → IsConstant (l.Object p fs) → NoRepeats (l.Object p fs)
      → (t : Written) → IsKnown s t → (whole : Data) → object_at (coerced n s) (entries_for s (firsts (map (literal_field vs) fs)) (Some t)) ≡ value whole
      → object_misfits look p t (values.fields_of (map given_field fs)) ≡ []
  object_at_type good n at_types in_customs vs p fs is nr t known whole e = by_type (type_named s (name_in t)) refl known e where
    by_custom : (b : Bool) → object_at (coerced n s) (if b then any_entries (firsts (map (literal_field vs) fs)) else no_object) ≡ value whole
        → (if b then within_fields (file_scalar s) (name_in t) (values.fields_of (map given_field fs)) else at_one p t) ≡ []
    by_custom true h = any_object_fits n in_customs vs p fs is nr (name_in t) whole h
    by_custom false h = absurd (refused_not Data reason.WrongKind [] whole h)

    by_kind : (st : SchemaType) → type_named s (name_in t) ≡ Some st → (k : TypeKind) → st.kind ≡ k → is_some (form_at (is_open s) st k) ≡ true
        → object_at (coerced n s) (entries_by (firsts (map (literal_field vs) fs)) (if is_input k then Some st else None)) ≡ value whole
        → of_known (bad_by s p t fs) (form_at (is_open s) st k) ≡ []
    by_kind st there kind.Scalar same k h = at_named (is_open s) p t (λ k m. within_fields k m (values.fields_of (map given_field fs))) (name_of st)
        ∙ by_custom (is_custom (scalar_named false (name_of st)))
        (subst (λ c. object_at (coerced n s) (if is_custom_at (name_of st) c then any_entries (firsts (map (literal_field vs) fs)) else no_object) ≡ value whole) same
        (subst (λ c. object_at (coerced n s) (entries_at_kind (firsts (map (literal_field vs) fs)) st c) ≡ value whole) same h))
    by_kind st there kind.Enum same k h = absurd (refused_not Data reason.WrongKind [] whole (subst (λ c. object_at (coerced n s) (entries_at_kind (firsts (map (literal_field vs) fs)) st c) ≡ value whole) same h))
    by_kind st there kind.InputObject same k h = object_fits n at_types vs p fs is nr st (λ d has. good (name_in t) st there d has) whole
        (find (λ (f : Field). not (is_defined st.input_fields f)) (firsts (map (literal_field vs) fs))) refl
        (subst (λ c. object_at (coerced n s) (entries_at_kind (firsts (map (literal_field vs) fs)) st c) ≡ value whole) same h)
    by_kind st there kind.Object same k h = absurd (true≢false (sym k))
    by_kind st there kind.Interface same k h = absurd (true≢false (sym k))
    by_kind st there kind.Union same k h = absurd (true≢false (sym k))

    by_type : (u : Option SchemaType) → type_named s (name_in t) ≡ u → is_some (option_and_then (form_of (is_open s)) u) ≡ true
        → object_at (coerced n s) (entries_by (firsts (map (literal_field vs) fs)) (option_and_then if_input u)) ≡ value whole
        → of_known (bad_by s p t fs) (option_and_then (form_of (is_open s)) u) ≡ []
    by_type None there k h = absurd (true≢false (sym k))
    by_type (Some st) there k h = by_kind st there st.kind refl k h

  -- ---- every literal

  in_custom : (n : ℕ) → InCustom n
  in_custom zero vs x is nr name v e = absurd (deep_not v (sym (no_level s (literal vs x) None) ∙ e))
  in_custom (suc n) vs x is nr m v e = by_form (λ y. IsConstant y → NoRepeats y → coerced (suc n) s (literal vs y) None ≡ value v → within_custom (file_scalar s) m (value_of y) ≡ []) record {
    object = λ p fs h g i. let d = some_value (object_at (coerced n s) (any_entries (firsts (map (literal_field vs) fs)))) v (sym (coerced_object n s None vs p fs) ∙ i) in
        ap (within_custom (file_scalar s) m) (value_object p fs) ∙ any_object_fits n (in_custom n) vs p fs h g m d.0 d.1;
    list = λ p xs h g i. let d = some_value (array_of (item_at (coerced n s) None) (map (literal vs) xs)) v (sym (coerced_list n s None vs p xs) ∙ i) in
        ap (within_custom (file_scalar s) m) (value_list p xs) ∙ any_list_fits n (in_custom n) vs p xs h g m d.0 d.1;
    variable = λ p w h g i. absurd (no_variable p w h);
    int = λ p t h g i. ap (within_custom (file_scalar s) m) (value_int p t) ∙ any_single_fits (of_int t) (scalar_takes_int t (file_scalar s)) (int_taken t (file_scalar s)) v (sym (coerced_int n s None vs p t) ∙ i) (bad rule.V18 p m);
    float = λ p t h g i. ap (within_custom (file_scalar s) m) (value_float p t) ∙ any_single_fits (fraction (real_of t)) (scalar_takes_float t (file_scalar s)) (scalar_fraction t (file_scalar s)) v (sym (coerced_float n s None vs p t) ∙ i) (bad rule.V18 p m);
    string = λ p t h g i. ap (within_custom (file_scalar s) m) (value_string p t);
    boolean = λ p b h g i. ap (within_custom (file_scalar s) m) (value_boolean p b);
    null = λ p h g i. ap (within_custom (file_scalar s) m) (value_null p);
    enum = λ p k h g i. ap (within_custom (file_scalar s) m) (value_enum p k);
  } x is nr e

  at_types : HasGoodFields s → (n : ℕ) → AtType n
  at_types good zero vs x is nr t known v e = absurd (deep_not v (sym (no_level s (literal vs x) (Some t)) ∙ e))
  at_types good (suc n) vs x is nr t known v e = by_form (λ y. IsConstant y → NoRepeats y → coerced (suc n) s (literal vs y) (Some t) ≡ value v → misfits look t (value_of y) ≡ []) record {
    object = λ p fs h g i. let w = once_value (Some t) (some (object_at (coerced n s) (entries_for s (firsts (map (literal_field vs) fs)) (Some t)))) v (sym (coerced_object n s (Some t) vs p fs) ∙ i) in
        let d = some_value (object_at (coerced n s) (entries_for s (firsts (map (literal_field vs) fs)) (Some t))) w.0 w.1 in
        misfits_object look t p fs ∙ object_at_type good n (at_types good n) (in_custom n) vs p fs h g t known d.0 d.1;
    list = λ p xs h g i. let d = some_value (list_by (coerced n s) (map (literal vs) xs) (items_expected s (Some t))) v (sym (coerced_list n s (Some t) vs p xs) ∙ i) in
        misfits_list look t p xs ∙ list_fits n (at_types good n) (in_custom n) vs p xs h g t known d.0 d.1;
    variable = λ p w h g i. absurd (no_variable p w h);
    int = λ p w h g i. ap (misfits look t) (value_int p w) ∙ single_fits (values.int p w) (of_int w) (int_alike p w) t known v (sym (coerced_int n s (Some t) vs p w) ∙ i);
    float = λ p w h g i. ap (misfits look t) (value_float p w) ∙ single_fits (values.float p w) (fraction (real_of w)) (float_alike p w) t known v (sym (coerced_float n s (Some t) vs p w) ∙ i);
    string = λ p w h g i. ap (misfits look t) (value_string p w) ∙ single_fits (values.string p) (string_text w) (string_alike p w) t known v (sym (coerced_string n s (Some t) vs p w) ∙ i);
    boolean = λ p b h g i. ap (misfits look t) (value_boolean p b) ∙ single_fits (values.boolean p) (truth b) (boolean_alike p b) t known v (sym (coerced_boolean n s (Some t) vs p b) ∙ i);
    null = λ p h g i. misfits_null look t p ∙ null_fits p t v (sym (coerced_null n s (Some t) vs p) ∙ i);
    enum = λ p k h g i. ap (misfits look t) (value_enum p k) ∙ single_fits (values.enum p k) (enum_name k) (enum_alike p k) t known v (sym (coerced_enum n s (Some t) vs p k) ∙ i);
  } x is nr e

pub fits_where_coerced : (s : Schema) → HasGoodFields s → (t : Written) → IsKnown s t → (x : Literal) → IsConstant x → repeats (value_of x) ≡ [] → (vs : Data)
    → (o : Outcome (Option Data)) → Comes s (literal vs x) t o → fits s x t ≡ is_value o
fits_where_coerced s good t known x is nr vs (comes.value v) comes =
    ap (λ bs. nat_eq (length bs) 0) (append_empty (misfits (in_schema s) t (value_of x)) (repeats (value_of x)) (at_types s good (comes.0 + 0) vs x is nr t known v (comes.1 0)) nr)
fits_where_coerced s good t known x is nr vs (comes.refused r path) comes =
    let found = refusal_is_reported s good t known x is vs r path comes in not_empty (bad_values s x t) found.0 found.1 where
      not_empty : (bs : List BadValue) (b : BadValue) → Contains bs b → nat_eq (length bs) 0 ≡ false
      not_empty [] b has = absurd (Contains-nil b has)
      not_empty (c ∷ bs) b has = not_zero (length bs)
