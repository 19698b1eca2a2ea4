-- What is refused of a literal without variables is among what does not fit.
use Rattle.std.proofs.Common.{◌≡◌, ◌+◌, ◌++◌, ◌&&◌, ◌||◌, ◌⊎◌, inl, inr, ℕ, zero, suc, List, [], ◌∷◌, Bool, true, false, true≢false, not, if◌then◌else◌, map, flat_map, filter, find, bytes_eq, is_some, length, nat_eq, Option, Some, None, option_map, option_and_then, unwrap_or, Contains, refl, ap, sym, subst, ◌∙◌, arith}
use Rattle.std.proofs.lemmas.Bool.Decides.{nat_tests}
use Rattle.std.proofs.lemmas.List.Elements.{Contains-append_left, Contains-append_right}
use Rattle.std.proofs.lemmas.Slice.Eq.{bytes_eq-Decides}
use Rattle.std.specs.List.{list_any, slice_get}
use Rattle.gql_text.specs.declared.place.Place.{Place}
use Rattle.gql_ast.specs.declared.literal.Literal.{Literal}
use Rattle.gql_ast.specs.declared.literal.Literal.TheVariants as l
use Rattle.gql_ast.specs.declared.literal.ObjectField.{ObjectField}
use Rattle.gql_ast.specs.declared.rule.Rule.TheVariants as rule
use Rattle.gql_ast.specs.declared.type_system.InputValueDefinition.{InputValueDefinition}
use Rattle.gql_built_in.specs.declared.sited.Sited.{Sited}
use Rattle.gql_inputs.proofs.Customs.{at_named, same_custom}
use Rattle.gql_inputs.proofs.ValueForms.{value_variable, value_int, value_float, value_string, value_boolean, value_null, value_enum, value_list, value_object, all_fields_of}
use Rattle.gql_inputs.proofs.Finding.{is_some_find, any_made, find_made}
use Rattle.gql_inputs.proofs.Judged.{items_misfits_is, fields_misfits_is, misfits_null, misfits_list, misfits_object}
use Rattle.gql_inputs.specs.BadValues.{bad, takes, scalar_takes_float, scalar_takes_int, of_known, where_known, never_fits, expected, single_at as bad_single, single_misfits, null_misfits, within as within_custom, within_values, within_fields, at_one, Inside, list_at_one, list_by as bad_list, list_misfits, item_misfits, field_by, field_misfits, is_given, is_null_given, lacks, missing, object_by, object_misfits, misfits, items_misfits, fields_misfits, is_custom_form, fits, bad_values, repeats}
use Rattle.gql_inputs.specs.InputTypes.{custom_scalar, if_input, input_type, is_custom, is_custom_at, is_input, is_list, is_non_null, is_open, item_of, name_in, name_of, scalar_named, text_of}
use Rattle.gql_inputs.specs.Lookups.{InputForm, FieldForm, InputLookup, field_named, field_of, form_at, form_of, in_schema, is_required}
use Rattle.gql_inputs.specs.Values as values
use Rattle.gql_inputs.specs.Values.{Value, GivenField, given_field, value_of, values_of, place_of, is_null, all_fields}
use Rattle.gql_inputs.specs.declared.bad_value.BadValue.{BadValue}
use Rattle.gql_inputs.specs.declared.scalar.Scalar.{Scalar}
use Rattle.gql_types.specs.Schemas.{type_named}
use Rattle.gql_types.specs.Written.{Written, named, listed, required, written}
use Rattle.gql_types.specs.declared.kind.TypeKind.{TypeKind}
use Rattle.gql_types.specs.declared.kind.TypeKind.TheVariants as kind
use Rattle.gql_types.specs.declared.schema.Schema.{Schema}
use Rattle.gql_types.specs.declared.schema_type.SchemaType.{SchemaType}
use Rattle.serde_json.specs.Data as json
use Rattle.serde_json.specs.Data.{Data}
use Rattle.serde_json.specs.View.{items_of}
use Rattle.gql_coerce.specs.Coercion.{coerced, nothing, anything, Entry, are, no_object, any_entry, any_entries, defined_entry, is_defined, unless_unknown, entries_at_kind, entries_by, entries_for, once, item_at, items_from, array_of, list_by, or_null, default_of, or_default, if_given, entry_at, member_at, object_at, put_all, under, null_at, single_at, as_type, item_expected, items_expected, takes_all, given_as, one_in}
use Rattle.gql_coerce.specs.Fitting.{has_variable, is_in_values, is_in_fields, IsConstant, IsKnown, IsGoodField, HasGoodFields, is_of_value, Reports, at_value, unknown, missing as missing_field, null_given, in_item, in_field}
use Rattle.gql_coerce.specs.Inputs.{Single, fraction, text as string_text, truth, name as enum_name, of_int, Input, Field, literal, literal_field, firsts, may_be_list}
use Rattle.gql_coerce.specs.Outcomes.{Reached, value, refused, too_deep, after, within, all, some}
use Rattle.gql_coerce.specs.Scalars.{as_any, wrong_kind}
use Rattle.gql_coerce.specs.declared.refusal.Reason.{Reason}
use Rattle.gql_coerce.specs.declared.refusal.Reason.TheVariants as reason
use Rattle.gql_coerce.specs.declared.refusal.Segment.{Segment}
use Rattle.gql_coerce.specs.declared.refusal.Segment.TheVariants.{Index, Key}
use Rattle.gql_coerce.specs.Comes.{Comes}
use Rattle.gql_coerce.specs.Comes as comes
use Rattle.gql_coerce.proofs.Containing.{Contains-nil, Contains-here, Contains-there, Contains-cases, Contains-map, Contains-map_from, Contains-flat_map}
use Rattle.gql_coerce.proofs.FitSingles.{and_left, and_right, both, has_value, own, takes_if, Alike, at_type, any_own, type_own, int_taken, scalar_fraction, any_text, any_truth, any_name, int_alike, float_alike, string_alike, boolean_alike, enum_alike}
use Rattle.gql_coerce.proofs.LiteralCases.{by_form}
use Rattle.gql_coerce.proofs.Reading.{no_level, coerced_int, coerced_float, coerced_string, coerced_boolean, coerced_null, coerced_enum, coerced_list, coerced_object, may_int, may_float, may_string, may_boolean, may_null, may_enum, may_list, may_object, may_variable}
use Rattle.gql_coerce.proofs.Settling.{is_none, some_none, once_none}
use Rattle.gql_inputs.specs.Numbers.{real_of}

-- ---- refusals of parts

abbrev is_refused : {A : Type 0} → Reached A → Bool
is_refused (value x) = false
is_refused (refused r path) = true
is_refused too_deep = false

abbrev reason_of : {A : Type 0} → Reached A → Reason
reason_of (value x) = reason.WrongKind
reason_of (refused r path) = r
reason_of too_deep = reason.WrongKind

abbrev path_of : {A : Type 0} → Reached A → List Segment
path_of (value x) = []
path_of (refused r path) = path
path_of too_deep = []

-- a refusal, and nothing, where values are of this type
abbrev pub stop : (A : Type 0) → Reason → List Segment → Reached A
stop A r path = refused r path

abbrev deep : (A : Type 0) → Reached A
deep A = too_deep

same_reason : (A : Type 0) (r q : Reason) (path more : List Segment) → stop A r path ≡ refused q more → r ≡ q
same_reason A r q path more e = ap (reason_of {A = A}) e

same_path : (A : Type 0) (r q : Reason) (path more : List Segment) → stop A r path ≡ refused q more → path ≡ more
same_path A r q path more e = ap (path_of {A = A}) e

not_value : {A : Type 0} (x : A) (r : Reason) (path : List Segment) → value x ≡ refused r path → ⊥
not_value x r path e = true≢false (sym (ap is_refused e))

not_deep : (A : Type 0) (r : Reason) (path : List Segment) → deep A ≡ refused r path → ⊥
not_deep A r path e = true≢false (sym (ap (is_refused {A = A}) e))

-- of what goes on with a value: it is refused, or what comes after
after_refused : {A B : Type 0} (o : Reached A) (f : A → Reached B) (r : Reason) (path : List Segment) → after o f ≡ refused r path
    → (o ≡ refused r path) ⊎ ((x : A) × (o ≡ value x) × (f x ≡ refused r path))
after_refused (value x) f r path e = inr (x, refl, e)
after_refused {A} {B} (refused q more) f r path e = inl (ap (λ p. refused p more) (same_reason B q r more path e) ∙ ap (λ p. refused r p) (same_path B q r more path e))
after_refused {A} {B} too_deep f r path e = absurd (not_deep B r path e)

-- where what comes after is never refused
by_value : {A B : Type 0} (o : Reached A) (f : A → B) (r : Reason) (path : List Segment) → after o (λ x. value (f x)) ≡ refused r path → o ≡ refused r path
by_value {A} {B} o f r path e = elim (after_refused o (λ x. value (f x)) r path e) [
  | inl is ↦ is
  | inr later ↦ absurd (not_value (f later.0) r path later.2)
]

some_refused : {A : Type 0} (o : Reached A) (r : Reason) (path : List Segment) → some o ≡ refused r path → o ≡ refused r path
some_refused o r path e = by_value o (λ x. Some x) r path e

once_refused : (e : Option Written) (o : Reached (Option Data)) (r : Reason) (path : List Segment) → once e o ≡ refused r path → o ≡ refused r path
once_refused None o r path is = is
once_refused (Some t) o r path is = by_value o (option_map (one_in t)) r path is

within_refused : {A : Type 0} (g : Segment) (o : Reached A) (r : Reason) (path : List Segment) → within g o ≡ refused r path
    → (more : List Segment) × (o ≡ refused r more) × (g ∷ more ≡ path)
within_refused {A} g (value x) r path e = absurd (not_value x r path e)
within_refused {A} g (refused q more) r path e = (more, ap (λ p. refused p more) (same_reason A q r (g ∷ more) path e), same_path A q r (g ∷ more) path e)
within_refused {A} g too_deep r path e = absurd (not_deep A r path e)

-- a refusal at once
at_once : (A : Type 0) (q : Reason) (r : Reason) (path : List Segment) → is_of_value q ≡ true → stop A q [] ≡ refused r path → (path ≡ []) × (is_of_value r ≡ true)
at_once A q r path is e = (sym (same_path A q r [] path e), subst (λ p. is_of_value p ≡ true) (same_reason A q r [] path e) is)

pub some_one : {A : Type 0} (x y : A) → Some x ≡ Some y → x ≡ y
some_one x y is = ap (λ o. unwrap_or o x) is

pub none_some : {A : Type 0} (x : A) → None ≡ Some x → ⊥
none_some x is = true≢false (sym (ap is_some is))

plus_zero : (m : ℕ) → m + 0 ≡ m
plus_zero m = omega arith

zero_plus : (m : ℕ) → m ≡ 0 + m
zero_plus m = omega arith

shifted : (m i : ℕ) → m + suc i ≡ suc m + i
shifted m i = omega arith

-- ---- members

-- one of several is refused
all_refused : {A X : Type 0} (f : X → Reached A) (xs : List X) (r : Reason) (path : List Segment) → all (map f xs) ≡ refused r path
    → (x : X) × Contains xs x × (f x ≡ refused r path)
all_refused {A} f [] r path e = absurd (not_value [] r path e)
all_refused {A} {X} f (x ∷ xs) r path e = elim (after_refused (f x) (λ y. after (all (map f xs)) (λ ys. value (y ∷ ys))) r path e) [
  | inl is ↦ (x, Contains-here x xs, is)
  | inr later ↦ let found = all_refused f xs r path (by_value (all (map f xs)) (λ ys. later.0 ∷ ys) r path later.2) in
      (found.0, Contains-there found.0 x xs found.1, found.2)
]

-- an item is refused, at its index
items_refused : (f : Input → Reached Data) (g : Literal → Input) (xs : List Literal) (m : ℕ) (r : Reason) (path : List Segment)
    → all (items_from f m (map g xs)) ≡ refused r path
    → (i : ℕ) × (x : Literal) × (more : List Segment) × (slice_get xs i ≡ Some x) × Contains xs x × (f (g x) ≡ refused r more) × (Index (m + i) ∷ more ≡ path)
items_refused f g [] m r path e = absurd (not_value [] r path e)
items_refused f g (x ∷ xs) m r path e = elim (after_refused (within (Index m) (f (g x))) (λ y. after (all (items_from f (suc m) (map g xs))) (λ ys. value (y ∷ ys))) r path e) [
  | inl is ↦ let part = within_refused (Index m) (f (g x)) r path is in (0, x, part.0, refl, Contains-here x xs, part.1, ap (λ k. Index k ∷ part.0) (plus_zero m) ∙ part.2)
  | inr later ↦ let found = items_refused f g xs (suc m) r path (by_value (all (items_from f (suc m) (map g xs))) (λ ys. later.0 ∷ ys) r path later.2) in
      (suc found.0, found.1, found.2, found.3, Contains-there found.1 x xs found.4, found.5, ap (λ k. Index k ∷ found.2) (shifted m found.0) ∙ found.6)
]

-- ---- literals without variables

or_left : (a b : Bool) → a || b ≡ false → a ≡ false
or_left true b is = is
or_left false b is = refl

or_right : (a b : Bool) → a || b ≡ false → b ≡ false
or_right true b is = absurd (true≢false is)
or_right false b is = is

in_constants : (xs : List Literal) → is_in_values (values_of (map value_of xs)) ≡ false → (x : Literal) → Contains xs x → IsConstant x
in_constants [] is x has = absurd (Contains-nil x has)
in_constants (y ∷ ys) is x has = elim (Contains-cases x y ys has) [
  | inl e ↦ subst IsConstant (sym e) (or_left (has_variable (value_of y)) (is_in_values (values_of (map value_of ys))) is)
  | inr later ↦ in_constants ys (or_right (has_variable (value_of y)) (is_in_values (values_of (map value_of ys))) is) x later
]

pub constant_items : (p : Place) (xs : List Literal) → IsConstant (l.List p xs) → (x : Literal) → Contains xs x → IsConstant x
constant_items p xs is = in_constants xs (sym (ap has_variable (value_list p xs)) ∙ is)

in_constant_fields : (fs : List ObjectField) → is_in_fields (values.fields_of (map given_field fs)) ≡ false → (f : ObjectField) → Contains fs f → IsConstant f.value
in_constant_fields [] is f has = absurd (Contains-nil f has)
in_constant_fields (g ∷ gs) is f has = elim (Contains-cases f g gs has) [
  | inl e ↦ subst (λ (h : ObjectField). IsConstant h.value) (sym e) (or_left (has_variable (value_of g.value)) (is_in_fields (values.fields_of (map given_field gs))) is)
  | inr later ↦ in_constant_fields gs (or_right (has_variable (value_of g.value)) (is_in_fields (values.fields_of (map given_field gs))) is) f later
]

pub constant_fields : (p : Place) (fs : List ObjectField) → IsConstant (l.Object p fs) → (f : ObjectField) → Contains fs f → IsConstant f.value
constant_fields p fs is = in_constant_fields fs (sym (ap has_variable (value_object p fs)) ∙ is)

pub no_variable : (p : Place) (n : List ℕ) → IsConstant (l.Variable p n) → ⊥
no_variable p n is = true≢false (sym (ap has_variable (value_variable p n)) ∙ is)

module _ (vs : Data) where
  -- both say of a literal whether it may be a list
  pub may_agree : (x : Literal) → may_be_list (literal vs x) ≡ values.may_be_list (value_of x)
  may_agree = by_form (λ x. may_be_list (literal vs x) ≡ values.may_be_list (value_of x)) record {
    object = λ p fs. may_object vs p fs ∙ sym (ap values.may_be_list (value_object p fs));
    list = λ p xs. may_list vs p xs ∙ sym (ap values.may_be_list (value_list p xs));
    variable = λ p n. may_variable vs p n ∙ sym (ap values.may_be_list (value_variable p n));
    int = λ p t. may_int vs p t ∙ sym (ap values.may_be_list (value_int p t));
    float = λ p t. may_float vs p t ∙ sym (ap values.may_be_list (value_float p t));
    string = λ p t. may_string vs p t ∙ sym (ap values.may_be_list (value_string p t));
    boolean = λ p b. may_boolean vs p b ∙ sym (ap values.may_be_list (value_boolean p b));
    null = λ p. may_null vs p ∙ sym (ap values.may_be_list (value_null p));
    enum = λ p n. may_enum vs p n ∙ sym (ap values.may_be_list (value_enum p n));
  }

-- ---- fields that a literal gives

filter_has : {A : Type 0} (test : A → Bool) (x : A) (xs : List A) → Contains (filter test xs) x → Contains xs x
filter_has test x [] has = has
filter_has test x (y ∷ ys) has = by_test (λ h. filter_has test x ys h) (test y) has where
  by_test : (Contains (filter test ys) x → Contains ys x) → (b : Bool) → Contains (if b then y ∷ filter test ys else filter test ys) x → Contains (y ∷ ys) x
  by_test rest true h = elim (Contains-cases x y (filter test ys) h) [
    | inl e ↦ subst (Contains (y ∷ ys)) (sym e) (Contains-here y ys)
    | inr later ↦ Contains-there x y ys (rest later)
  ]
  by_test rest false h = Contains-there x y ys (rest h)

firsts_has : (f : Field) (fs : List Field) → Contains (firsts fs) f → Contains fs f
firsts_has f [] has = has
firsts_has f (g ∷ gs) has = elim (Contains-cases f g (filter (λ (h : Field). not (bytes_eq g.name h.name)) (firsts gs)) has) [
  | inl e ↦ subst (Contains (g ∷ gs)) (sym e) (Contains-here g gs)
  | inr later ↦ Contains-there f g gs (firsts_has f gs (filter_has (λ (h : Field). not (bytes_eq g.name h.name)) f (firsts gs) later))
]

-- the field of the literal that a first field was made of
pub given_from : (vs : Data) (fs : List ObjectField) (f : Field) → Contains (firsts (map (literal_field vs) fs)) f
    → (g : ObjectField) × Contains fs g × (literal_field vs g ≡ f)
given_from vs fs f has = Contains-map_from (literal_field vs) fs f (firsts_has f (map (literal_field vs) fs) has)

pub not_zero : (n : ℕ) → nat_eq (suc n) 0 ≡ false
not_zero n = grind (arith, nat_tests)

-- ---- searches

pub has_any : {A : Type 0} (test : A → Bool) (x : A) (xs : List A) → Contains xs x → test x ≡ true → list_any test xs ≡ true
has_any test x [] has is = absurd (Contains-nil x has)
has_any test x (y ∷ ys) has is = elim (Contains-cases x y ys has) [
  | inl e ↦ ap (λ b. b || list_any test ys) (ap test (sym e) ∙ is)
  | inr later ↦ or_true (test y) (has_any test x ys later is)
] where
  or_true : (b : Bool) → list_any test ys ≡ true → b || list_any test ys ≡ true
  or_true true e = refl
  or_true false e = e

pub found_in : {A : Type 0} (test : A → Bool) (xs : List A) (x : A) → find test xs ≡ Some x → Contains xs x × (test x ≡ true)
found_in test [] x is = absurd (none_some x is)
found_in test (y ∷ ys) x is = by_test (λ h. found_in test ys x h) (test y) refl is where
  by_test : (find test ys ≡ Some x → Contains ys x × (test x ≡ true)) → (b : Bool) → test y ≡ b → (if b then Some y else find test ys) ≡ Some x → Contains (y ∷ ys) x × (test x ≡ true)
  by_test rest true e h = let same = some_one y x h in (subst (Contains (y ∷ ys)) same (Contains-here y ys), subst (λ z. test z ≡ true) same e)
  by_test rest false e h = let later = rest h in (Contains-there x y ys later.0, later.1)

pub bytes_same : (a b : List ℕ) → a ≡ b → bytes_eq a b ≡ true
bytes_same a b is = grind (arith, is, bytes_eq-Decides a b)

pub or_right_true : (a : Bool) {b : Bool} → b ≡ true → a || b ≡ true
or_right_true true is = refl
or_right_true false is = is

pub same_bytes : (a b : List ℕ) → bytes_eq a b ≡ true → a ≡ b
same_bytes a b is = grind (arith, is, bytes_eq-Decides a b)

differ : (n a b : List ℕ) → bytes_eq n a ≡ false → bytes_eq n b ≡ true → not (bytes_eq a b) ≡ true
differ n a b p q = grind (arith, p, q, bytes_eq-Decides n a, bytes_eq-Decides n b, bytes_eq-Decides a b)

any_filter : (n a : List ℕ) → bytes_eq n a ≡ false → (fs : List Field)
    → list_any (λ (f : Field). bytes_eq n f.name) (filter (λ (f : Field). not (bytes_eq a f.name)) fs) ≡ list_any (λ (f : Field). bytes_eq n f.name) fs
any_filter n a apart [] = refl
any_filter n a apart (f ∷ fs) = by_test (any_filter n a apart fs) (not (bytes_eq a f.name)) (bytes_eq n f.name) refl (λ is. differ n a f.name apart is) where
  by_test : list_any (λ (f : Field). bytes_eq n f.name) (filter (λ (f : Field). not (bytes_eq a f.name)) fs) ≡ list_any (λ (f : Field). bytes_eq n f.name) fs
      → (b c : Bool) → bytes_eq n f.name ≡ c → (c ≡ true → b ≡ true)
      → list_any (λ (f : Field). bytes_eq n f.name) (if b then f ∷ filter (λ (f : Field). not (bytes_eq a f.name)) fs else filter (λ (f : Field). not (bytes_eq a f.name)) fs)
      ≡ c || list_any (λ (f : Field). bytes_eq n f.name) fs
  by_test rest true c is to = ap (λ d. bytes_eq n f.name || d) rest ∙ ap (λ d. d || list_any (λ (f : Field). bytes_eq n f.name) fs) is
  by_test rest false true is to = absurd (true≢false (sym (to refl)))
  by_test rest false false is to = rest

pub any_first : (n : List ℕ) (fs : List Field) → list_any (λ (f : Field). bytes_eq n f.name) (firsts fs) ≡ list_any (λ (f : Field). bytes_eq n f.name) fs
any_first n [] = refl
any_first n (f ∷ fs) = by_test (any_first n fs) (bytes_eq n f.name) refl where
  by_test : list_any (λ (f : Field). bytes_eq n f.name) (firsts fs) ≡ list_any (λ (f : Field). bytes_eq n f.name) fs → (b : Bool) → bytes_eq n f.name ≡ b
      → b || list_any (λ (f : Field). bytes_eq n f.name) (filter (λ (g : Field). not (bytes_eq f.name g.name)) (firsts fs)) ≡ b || list_any (λ (f : Field). bytes_eq n f.name) fs
  by_test rest true is = refl
  by_test rest false is = any_filter n f.name is (firsts fs) ∙ rest

-- a field that is not given as an input is not given in the literal
pub not_given : (vs : Data) (n : List ℕ) (fs : List ObjectField) → given_as n (firsts (map (literal_field vs) fs)) ≡ None → is_given (map given_field fs) n ≡ false
not_given vs n fs is = any_made given_field (λ (g : GivenField). bytes_eq n g.name.text) fs
    ∙ sym (any_made (literal_field vs) (λ (f : Field). bytes_eq n f.name) fs)
    ∙ sym (any_first n (map (literal_field vs) fs))
    ∙ sym (is_some_find (λ (f : Field). bytes_eq n f.name) (firsts (map (literal_field vs) fs)))
    ∙ nothing_found (find (λ (f : Field). bytes_eq n f.name) (firsts (map (literal_field vs) fs))) is where
      nothing_found : (o : Option Field) → option_map (λ (f : Field). f.value) o ≡ None → is_some o ≡ false
      nothing_found None e = refl
      nothing_found (Some f) e = absurd (none_some f.value (sym e))

-- a field that is given as an input is given in the literal
pub given_there : (vs : Data) (n : List ℕ) (fs : List ObjectField) (y : Input) → given_as n (firsts (map (literal_field vs) fs)) ≡ Some y
    → (g : ObjectField) × Contains fs g × (literal vs g.value ≡ y) × (n ≡ g.name.text)
given_there vs n fs y is = by_found (find (λ (f : Field). bytes_eq n f.name) (firsts (map (literal_field vs) fs))) refl is where
  by_found : (o : Option Field) → find (λ (f : Field). bytes_eq n f.name) (firsts (map (literal_field vs) fs)) ≡ o
      → option_map (λ (f : Field). f.value) o ≡ Some y → (g : ObjectField) × Contains fs g × (literal vs g.value ≡ y) × (n ≡ g.name.text)
  by_found None e h = absurd (none_some y h)
  by_found (Some f) e h = let there = found_in (λ (f : Field). bytes_eq n f.name) (firsts (map (literal_field vs) fs)) f e in
      let g = given_from vs fs f there.0 in
      (g.0, g.1, ap (λ (f : Field). f.value) g.2 ∙ some_one f.value y h, same_bytes n f.name there.1 ∙ sym (ap (λ (f : Field). f.name) g.2))

-- ---- what is found

abbrev Found : Literal → List BadValue → Reason → List Segment → Type 0
Found x bs r path = (b : BadValue) × Contains bs b × Reports x r path b

-- more is found
found_more : (x : Literal) (bs cs : List BadValue) (r : Reason) (path : List Segment) → ((b : BadValue) → Contains bs b → Contains cs b) → Found x bs r path → Found x cs r path
found_more x bs cs r path to found = (found.0, to found.0 found.1, found.2)

-- a refusal of a value itself
abbrev Own : Reason → List Segment → Type 0
Own r path = (path ≡ []) × (is_of_value r ≡ true)

found_here : (x : Literal) (v : Value) → value_of x ≡ v → (r : Reason) (path : List Segment) (about : List ℕ) → Own r path → Found x (bad rule.V18 (place_of v) about) r path
found_here x v is r path about own = (
  record { rule = rule.V18; place = place_of v; about = about },
  Contains-here _ [],
  subst (λ w. Reports x r path (record { rule = rule.V18; place = place_of w; about = about })) is
      (subst (λ q. Reports x r q (record { rule = rule.V18; place = place_of (value_of x); about = about })) (sym own.0) (at_value x own.1)),
)

-- under a known type
found_known : (x : Literal) (f : InputForm → List BadValue) (r : Reason) (path : List Segment) (o : Option InputForm) → is_some o ≡ true
    → ((i : InputForm) → o ≡ Some i → Found x (f i) r path) → Found x (of_known f o) r path
found_known x f r path None is each = absurd (true≢false (sym is))
found_known x f r path (Some i) is each = each i refl

found_unless : (x : Literal) (v : Value) → value_of x ≡ v → (r : Reason) (path : List Segment) (about : List ℕ) → Own r path → (b : Bool) → b ≡ false
    → Found x (if b then [] else bad rule.V18 (place_of v) about) r path
found_unless x v is r path about own true e = absurd (true≢false e)
found_unless x v is r path about own false e = found_here x v is r path about own

-- ---- at a type

module _ (s : Schema) where
  abbrev look : InputLookup
  look = in_schema s

  -- a scalar of a schema file
  abbrev pub file_scalar : Scalar
  file_scalar = custom_scalar (is_open s)

  never_found : (x : Literal) (v : Value) → value_of x ≡ v → (r : Reason) (path : List Segment) (t : Written) → IsKnown s t → Own r path → Found x (never_fits look (place_of v) t) r path
  never_found x v is r path t known own = found_known x (λ i. bad rule.V18 (place_of v) (text_of t)) r path (look (name_in t)) known
      (λ i e. found_here x v is r path (text_of t) own)

  single_found : (x : Literal) (v : Value) (y : Single) → value_of x ≡ v → Alike v y → (t : Written) → IsKnown s t → (r : Reason) (path : List Segment)
      → once (Some t) (some (single_at s (Some t) y)) ≡ refused r path → Found x (single_misfits look t v) r path
  single_found x v y is alike t known r path e =
      let at : as_type (is_open s) (input_type s t) y ≡ refused r path = some_refused (as_type (is_open s) (input_type s t) y) r path (once_refused (Some t) (some (as_type (is_open s) (input_type s t) y)) r path e) in
      let not_taken : takes_if v (look (name_in t)) ≡ false = at_type v y alike (is_open s) (type_named s (name_in t)) ∙ ap has_value at in
      found_known x (bad_single t v) r path (look (name_in t)) known
      (λ i has. found_unless x v is r path (expected t i) (own (as_type (is_open s) (input_type s t) y) (type_own (is_open s) (input_type s t) y) r path at) (takes v i) (sym (ap (takes_if v) has) ∙ not_taken))

  null_found : (p : Place) (t : Written) → IsKnown s t → (r : Reason) (path : List Segment) → some (null_at (Some t)) ≡ refused r path → Found (l.Null p) (null_misfits look p t) r path
  null_found p t known r path e = by_mark (is_non_null t) (some_refused (null_at (Some t)) r path e) where
    by_mark : (b : Bool) → (if b then stop Data reason.NullForNonNull [] else value json.null) ≡ refused r path → Found (l.Null p) (if b then never_fits look p t else []) r path
    by_mark true is = never_found (l.Null p) (values.null p) (value_null p) r path t known (at_once Data reason.NullForNonNull r path refl is)
    by_mark false is = absurd (not_value json.null r path is)

  -- ---- custom scalars

  abbrev pub custom_if : Option InputForm → Bool
  custom_if None = false
  custom_if (Some i) = is_custom_form i

  custom_by : (st : SchemaType) (k : TypeKind) → st.kind ≡ k → takes_all (if is_input k then Some st else None) ≡ custom_if (form_at (is_open s) st k)
  custom_by st kind.Scalar is = ap (is_custom_at (name_of st)) is ∙ sym (same_custom (is_open s) (name_of st))
  custom_by st kind.Enum is = ap (is_custom_at (name_of st)) is
  custom_by st kind.InputObject is = ap (is_custom_at (name_of st)) is
  custom_by st kind.Object is = refl
  custom_by st kind.Interface is = refl
  custom_by st kind.Union is = refl

  pub custom_of : (u : Option SchemaType) → takes_all (option_and_then if_input u) ≡ custom_if (option_and_then (form_of (is_open s)) u)
  custom_of None = refl
  custom_of (Some st) = custom_by st st.kind refl

  -- by whether a type is a custom scalar
  found_custom : (x : Literal) (t : Written) → IsKnown s t → (inside other : List BadValue) (r : Reason) (path : List Segment) (b : Bool) → takes_all (input_type s t) ≡ b
      → (b ≡ true → Found x inside r path) → (b ≡ false → Found x other r path)
      → Found x (where_known look t (λ i. if is_custom_form i then inside else other)) r path
  found_custom x t known inside other r path b is so un = found_known x (λ i. if is_custom_form i then inside else other) r path (look (name_in t)) known
      (λ i has. by_custom (is_custom_form i) (sym (ap custom_if has) ∙ sym (custom_of (type_named s (name_in t))) ∙ is)) where
        by_custom : (c : Bool) → c ≡ b → Found x (if c then inside else other) r path
        by_custom true e = so (sym e)
        by_custom false e = un (sym e)

  -- what of a list does not fit, by whether its type is a custom scalar
  list_at_kind : (p : Place) (t : Written) (inside : Inside) (st : SchemaType) (k : TypeKind) → of_known (list_at_one p t inside) (form_at (is_open s) st k)
      ≡ of_known (λ i. if is_custom_form i then inside file_scalar (name_in t) else at_one p t) (form_at (is_open s) st k)
  list_at_kind p t inside st kind.Scalar = at_named (is_open s) p t inside (name_of st)
      ∙ ap (λ b. if b then inside file_scalar (name_in t) else at_one p t) (sym (same_custom (is_open s) (name_of st)))
  list_at_kind p t inside st kind.Enum = refl
  list_at_kind p t inside st kind.InputObject = refl
  list_at_kind p t inside st kind.Object = refl
  list_at_kind p t inside st kind.Interface = refl
  list_at_kind p t inside st kind.Union = refl

  list_at_type : (p : Place) (t : Written) (inside : Inside) (u : Option SchemaType) → of_known (list_at_one p t inside) (option_and_then (form_of (is_open s)) u)
      ≡ of_known (λ i. if is_custom_form i then inside file_scalar (name_in t) else at_one p t) (option_and_then (form_of (is_open s)) u)
  list_at_type p t inside None = refl
  list_at_type p t inside (Some st) = list_at_kind p t inside st st.kind

  pub list_by_custom : (p : Place) (t : Written) (inside : Inside) → where_known look t (list_at_one p t inside)
      ≡ where_known look t (λ i. if is_custom_form i then inside file_scalar (name_in t) else at_one p t)
  list_by_custom p t inside = list_at_type p t inside (type_named s (name_in t))

  -- a value without parts, within a custom scalar
  any_single_found : (x : Literal) (v : Value) (y : Single) → value_of x ≡ v → (b : Bool) → b ≡ has_value (as_any (is_open s) y) → (about : List ℕ) (r : Reason) (path : List Segment)
      → some (as_any (is_open s) y) ≡ refused r path → Found x (if b then [] else bad rule.V18 (place_of v) about) r path
  any_single_found x v y is b same about r path e =
      let at = some_refused (as_any (is_open s) y) r path e in
      found_unless x v is r path about (own (as_any (is_open s) y) (any_own (is_open s) y) r path at) b (same ∙ ap has_value at)

  pub within_values_is : (name : List ℕ) (xs : List Literal) → within_values file_scalar name (values_of (map value_of xs)) ≡ flat_map (λ (x : Literal). within_custom file_scalar name (value_of x)) xs
  within_values_is name [] = refl
  within_values_is name (x ∷ xs) = ap (λ r. within_custom file_scalar name (value_of x) ++ r) (within_values_is name xs)

  pub within_fields_is : (name : List ℕ) (fs : List ObjectField) → within_fields file_scalar name (values.fields_of (map given_field fs)) ≡ flat_map (λ (f : ObjectField). within_custom file_scalar name (value_of f.value)) fs
  within_fields_is name [] = refl
  within_fields_is name (f ∷ fs) = ap (λ r. within_custom file_scalar name (value_of f.value) ++ r) (within_fields_is name fs)

  -- ---- with so many levels

  abbrev AtType : ℕ → Type 0
  AtType n = (vs : Data) (x : Literal) → IsConstant x → (t : Written) → IsKnown s t → (r : Reason) (path : List Segment)
      → coerced n s (literal vs x) (Some t) ≡ refused r path → Found x (misfits look t (value_of x)) r path

  abbrev InCustom : ℕ → Type 0
  InCustom n = (vs : Data) (x : Literal) → IsConstant x → (name : List ℕ) (r : Reason) (path : List Segment)
      → coerced n s (literal vs x) None ≡ refused r path → Found x (within_custom file_scalar name (value_of x)) r path

  -- a literal without variables comes to something, or is refused
  not_none : (n : ℕ) (vs : Data) (e : Option Written) (x : Literal) → IsConstant x → is_none (coerced n s (literal vs x) e) ≡ false
  not_none zero vs e x is = ap is_none (no_level s (literal vs x) e)
  not_none (suc n) vs e x is = by_form (λ y. IsConstant y → is_none (coerced (suc n) s (literal vs y) e) ≡ false) record {
    object = λ p fs h. ap is_none (coerced_object n s e vs p fs) ∙ once_none e (object_at (coerced n s) (entries_for s (firsts (map (literal_field vs) fs)) e));
    list = λ p xs h. ap is_none (coerced_list n s e vs p xs) ∙ some_none (list_by (coerced n s) (map (literal vs) xs) (items_expected s e));
    variable = λ p v h. absurd (no_variable p v h);
    int = λ p t h. ap is_none (coerced_int n s e vs p t) ∙ once_none e (single_at s e (of_int t));
    float = λ p t h. ap is_none (coerced_float n s e vs p t) ∙ once_none e (single_at s e (fraction (real_of t)));
    string = λ p t h. ap is_none (coerced_string n s e vs p t) ∙ once_none e (single_at s e (string_text t));
    boolean = λ p b h. ap is_none (coerced_boolean n s e vs p b) ∙ once_none e (single_at s e (truth b));
    null = λ p h. ap is_none (coerced_null n s e vs p) ∙ some_none (null_at e);
    enum = λ p m h. ap is_none (coerced_enum n s e vs p m) ∙ once_none e (single_at s e (enum_name m));
  } x is

  -- null is refused as null
  pub null_refused : (n : ℕ) (vs : Data) (t : Written) (x : Literal) → is_null (value_of x) ≡ true → (r : Reason) (path : List Segment)
      → coerced n s (literal vs x) (Some t) ≡ refused r path → (r ≡ reason.NullForNonNull) × (path ≡ [])
  null_refused zero vs t x is r path e = absurd (not_deep (Option Data) r path (sym (no_level s (literal vs x) (Some t)) ∙ e))
  null_refused (suc n) vs t x is r path e = by_form (λ y. is_null (value_of y) ≡ true → coerced (suc n) s (literal vs y) (Some t) ≡ refused r path → (r ≡ reason.NullForNonNull) × (path ≡ [])) record {
    object = λ p fs h. absurd (true≢false (sym h ∙ ap is_null (value_object p fs)));
    list = λ p xs h. absurd (true≢false (sym h ∙ ap is_null (value_list p xs)));
    variable = λ p v h. absurd (true≢false (sym h ∙ ap is_null (value_variable p v)));
    int = λ p w h. absurd (true≢false (sym h ∙ ap is_null (value_int p w)));
    float = λ p w h. absurd (true≢false (sym h ∙ ap is_null (value_float p w)));
    string = λ p w h. absurd (true≢false (sym h ∙ ap is_null (value_string p w)));
    boolean = λ p b h. absurd (true≢false (sym h ∙ ap is_null (value_boolean p b)));
    null = λ p h i. by_mark (is_non_null t) (some_refused (null_at (Some t)) r path (sym (coerced_null n s (Some t) vs p) ∙ i));
    enum = λ p m h. absurd (true≢false (sym h ∙ ap is_null (value_enum p m)));
  } x is e where
    by_mark : (b : Bool) → (if b then stop Data reason.NullForNonNull [] else value json.null) ≡ refused r path → (r ≡ reason.NullForNonNull) × (path ≡ [])
    by_mark true h = (sym (same_reason Data reason.NullForNonNull r [] path h), sym (same_path Data reason.NullForNonNull r [] path h))
    by_mark false h = absurd (not_value json.null r path h)

  -- one item of a list that is given
  item_found : (n : ℕ) → AtType n → (vs : Data) (x : Literal) → IsConstant x → (item : Written) → IsKnown s item → (r : Reason) (path : List Segment)
      → item_at (coerced n s) (Some item) (literal vs x) ≡ refused r path → Found x (item_misfits look item (value_of x)) r path
  item_found n each vs x is item known r path e =
      subst (λ m. Found x (if is_list item && not m then never_fits look (place_of (value_of x)) item else misfits look item (value_of x)) r path) (may_agree vs x)
      (by_form_of (is_list item && not (may_be_list (literal vs x))) e) where
        by_form_of : (b : Bool) → (if b then wrong_kind else after (coerced n s (literal vs x) (Some item)) (or_null (Some item))) ≡ refused r path
            → Found x (if b then never_fits look (place_of (value_of x)) item else misfits look item (value_of x)) r path
        by_form_of true h = never_found x (value_of x) refl r path item known (at_once Data reason.WrongKind r path refl h)
        by_form_of false h = elim (after_refused (coerced n s (literal vs x) (Some item)) (or_null (Some item)) r path h) [
          | inl i ↦ each vs x is item known r path i
          | inr later ↦ by_result later.0 later.1 later.2
        ] where
          by_result : (v : Option Data) → coerced n s (literal vs x) (Some item) ≡ value v → or_null (Some item) v ≡ refused r path → Found x (misfits look item (value_of x)) r path
          by_result None i j = absurd (true≢false (sym (ap is_none i) ∙ not_none n vs (Some item) x is))
          by_result (Some d) i j = absurd (not_value d r path j)

  -- one item within a custom scalar
  any_item_found : (n : ℕ) → InCustom n → (vs : Data) (x : Literal) → IsConstant x → (name : List ℕ) (r : Reason) (path : List Segment)
      → item_at (coerced n s) None (literal vs x) ≡ refused r path → Found x (within_custom file_scalar name (value_of x)) r path
  any_item_found n each vs x is name r path e = elim (after_refused (coerced n s (literal vs x) None) (or_null None) r path e) [
    | inl i ↦ each vs x is name r path i
    | inr later ↦ by_result later.0 later.2
  ] where
    by_result : (v : Option Data) → or_null None v ≡ refused r path → Found x (within_custom file_scalar name (value_of x)) r path
    by_result None j = absurd (not_value json.null r path j)
    by_result (Some d) j = absurd (not_value d r path j)

  -- an array, by its items
  array_found : (n : ℕ) (vs : Data) (p : Place) (xs : List Literal) (bs : List BadValue) (of : Literal → List BadValue) (e : Option Written) (r : Reason) (path : List Segment)
      → flat_map of xs ≡ bs
      → ((x : Literal) → Contains xs x → (more : List Segment) → item_at (coerced n s) e (literal vs x) ≡ refused r more → Found x (of x) r more)
      → array_of (item_at (coerced n s) e) (map (literal vs) xs) ≡ refused r path → Found (l.List p xs) bs r path
  array_found n vs p xs bs of e r path same each is =
      let at = items_refused (item_at (coerced n s) e) (literal vs) xs 0 r path (by_value (all (items_from (item_at (coerced n s) e) 0 (map (literal vs) xs))) (λ ds. json.array (items_of ds)) r path is) in
      let found = each at.1 at.4 at.2 at.5 in (
        found.0,
        subst (λ cs. Contains cs found.0) same (Contains-flat_map of xs at.1 found.0 at.4 found.1),
        subst (λ q. Reports (l.List p xs) r q found.0) (ap (λ k. Index k ∷ at.2) (zero_plus at.0) ∙ at.6) (in_item p xs at.0 at.1 at.3 found.2),
      )

  -- a list, within a custom scalar
  any_list_found : (n : ℕ) → InCustom n → (vs : Data) (p : Place) (xs : List Literal) → IsConstant (l.List p xs) → (name : List ℕ) (r : Reason) (path : List Segment)
      → array_of (item_at (coerced n s) None) (map (literal vs) xs) ≡ refused r path → Found (l.List p xs) (within_values file_scalar name (values_of (map value_of xs))) r path
  any_list_found n each vs p xs is name r path e = array_found n vs p xs (within_values file_scalar name (values_of (map value_of xs))) (λ x. within_custom file_scalar name (value_of x)) None r path
      (sym (within_values_is name xs)) (λ x has more i. any_item_found n each vs x (constant_items p xs is x has) name r more i) e

  -- the items of a list have its name
  pub item_name : (t item : Written) → item_of t ≡ Some item → name_in item ≡ name_in t
  item_name (named n) item e = absurd (none_some item e)
  item_name (listed t) item e = ap name_in (sym (some_one t item e))
  item_name (required t) item e = item_name t item e

  list_found : (n : ℕ) → AtType n → InCustom n → (vs : Data) (p : Place) (xs : List Literal) → IsConstant (l.List p xs) → (t : Written) → IsKnown s t → (r : Reason) (path : List Segment)
      → list_by (coerced n s) (map (literal vs) xs) (items_expected s (Some t)) ≡ refused r path → Found (l.List p xs) (list_misfits look p t (values_of (map value_of xs))) r path
  list_found n at_types in_customs vs p xs is t known r path e = by_item (item_of t) refl e where
    by_item : (o : Option Written) → item_of t ≡ o → list_by (coerced n s) (map (literal vs) xs) (item_expected (input_type s t) o) ≡ refused r path
        → Found (l.List p xs) (bad_list look p t (λ k name. within_values k name (values_of (map value_of xs))) (λ item. items_misfits look item (values_of (map value_of xs))) o) r path
    by_item (Some item) same h = array_found n vs p xs (items_misfits look item (values_of (map value_of xs))) (λ (x : Literal). item_misfits look item (value_of x)) (Some item) r path
        (sym (items_misfits_is look item xs))
        (λ x has more i. item_found n at_types vs x (constant_items p xs is x has) item (subst (λ m. is_some (look m) ≡ true) (sym (item_name t item same)) known) r more i) h
    by_item None same h = subst (λ bs. Found (l.List p xs) bs r path) (sym (list_by_custom p t (λ k name. within_values k name (values_of (map value_of xs)))))
        (found_custom (l.List p xs) t known (within_values file_scalar (name_in t) (values_of (map value_of xs))) (at_one p t) r path (takes_all (input_type s t)) refl
        (λ so. any_list_found n in_customs vs p xs is (name_in t) r path (subst (λ b. list_by (coerced n s) (map (literal vs) xs) (if b then anything else nothing) ≡ refused r path) so h))
        (λ un. found_here (l.List p xs) (values.list p (values_of (map value_of xs))) (value_list p xs) r path _
        (at_once Data reason.WrongKind r path refl (subst (λ b. list_by (coerced n s) (map (literal vs) xs) (if b then anything else nothing) ≡ refused r path) un h))))

  -- ---- objects

  -- one member of an object
  member_refused : (inner : Input → Option Written → Reached (Option Data)) (es : List Entry) (r : Reason) (path : List Segment) → object_at inner (are es) ≡ refused r path
      → (m : Entry) × Contains es m × (entry_at inner m ≡ refused r path)
  member_refused inner es r path e =
      let found = all_refused (member_at inner) es r path (by_value (all (map (member_at inner) es)) (λ more. json.object (put_all more json.no_members)) r path e) in
      (found.0, found.1, by_value (entry_at inner found.0) (under found.0.name) r path found.2)

  any_object_found : (n : ℕ) → InCustom n → (vs : Data) (p : Place) (fs : List ObjectField) → IsConstant (l.Object p fs) → (name : List ℕ) (r : Reason) (path : List Segment)
      → object_at (coerced n s) (any_entries (firsts (map (literal_field vs) fs))) ≡ refused r path → Found (l.Object p fs) (within_fields file_scalar name (values.fields_of (map given_field fs))) r path
  any_object_found n each vs p fs is name r path e =
      let m = member_refused (coerced n s) (map any_entry (firsts (map (literal_field vs) fs))) r path e in
      let f = Contains-map_from any_entry (firsts (map (literal_field vs) fs)) m.0 m.1 in
      let g = given_from vs fs f.0 f.1 in
      by_member g.0 g.1 (subst (λ (h : Field). entry_at (coerced n s) (any_entry h) ≡ refused r path) (sym g.2) (subst (λ (k : Entry). entry_at (coerced n s) k ≡ refused r path) (sym f.2) m.2)) where
        by_member : (g : ObjectField) → Contains fs g → entry_at (coerced n s) (any_entry (literal_field vs g)) ≡ refused r path → Found (l.Object p fs) (within_fields file_scalar name (values.fields_of (map given_field fs))) r path
        by_member g has i = elim (after_refused (within (Key g.name.text) (coerced n s (literal vs g.value) None)) (or_default (coerced n s) g.name.text None) r path i) [
          | inl at ↦ let part = within_refused (Key g.name.text) (coerced n s (literal vs g.value) None) r path at in
              let found = each vs g.value (constant_fields p fs is g has) name r part.0 part.1 in (
                found.0,
                subst (λ bs. Contains bs found.0) (sym (within_fields_is name fs)) (Contains-flat_map (λ (f : ObjectField). within_custom file_scalar name (value_of f.value)) fs g found.0 has found.1),
                subst (λ q. Reports (l.Object p fs) r q found.0) part.2 (in_field p fs g has found.2),
              )
          | inr later ↦ absurd (not_value later.0 r path later.2)
        ]

  -- nothing is in what is empty
  fits_none : (x : Literal) (t : Written) → fits s x t ≡ true → (b : BadValue) → Contains (misfits look t (value_of x)) b → ⊥
  fits_none x t is b has = empty (bad_values s x t) is b (Contains-append_left (misfits look t (value_of x)) (repeats (value_of x)) b has) where
    empty : (bs : List BadValue) → nat_eq (length bs) 0 ≡ true → (b : BadValue) → Contains bs b → ⊥
    empty [] e b h = Contains-nil b h
    empty (c ∷ bs) e b h = true≢false (sym e ∙ not_zero (length bs))

  module _ (n : ℕ) (at_types : AtType n) (vs : Data) (p : Place) (fs : List ObjectField) (is : IsConstant (l.Object p fs)) (st : SchemaType)
      (good : (d : Sited InputValueDefinition) → Contains st.input_fields d → IsGoodField s st d) (r : Reason) (path : List Segment) where
    abbrev given : List GivenField
    given = map given_field fs

    abbrev inputs : List Field
    inputs = firsts (map (literal_field vs) fs)

    abbrev forms : List FieldForm
    forms = map field_of st.input_fields

    abbrev all_bad : List BadValue
    all_bad = fields_misfits look forms (values.fields_of given) ++ flat_map (missing p (all_fields (values.fields_of given))) forms

    -- of a field that is given
    of_field : (g : ObjectField) → Contains fs g → (b : BadValue) → Contains (field_misfits look forms (given_field g)) b → Contains all_bad b
    of_field g has b h = Contains-append_left (fields_misfits look forms (values.fields_of given)) (flat_map (missing p (all_fields (values.fields_of given))) forms) b
        (subst (λ bs. Contains bs b) (sym (fields_misfits_is look forms given)) (Contains-flat_map (field_misfits look forms) given (given_field g) b (Contains-map given_field fs g has) h))

    -- of a field that is missing
    of_missing : (d : Sited InputValueDefinition) → Contains st.input_fields d → (b : BadValue) → Contains (missing p given (field_of d)) b → Contains all_bad b
    of_missing d has b h = Contains-append_right (fields_misfits look forms (values.fields_of given)) (flat_map (missing p (all_fields (values.fields_of given))) forms) b
        (subst (λ gs. Contains (flat_map (missing p gs) forms) b) (sym (all_fields_of given)) (Contains-flat_map (missing p given) forms (field_of d) b (Contains-map field_of st.input_fields d has) h))

    missing_here : (d : Sited InputValueDefinition) → Contains st.input_fields d → is_required (field_of d) ≡ true
        → lacks (is_given given d.node.name.text) (is_null_given given d.node.name.text) ≡ true
        → Contains all_bad (record { rule = rule.V21; place = p; about = d.node.name.text })
    missing_here d has needed lacked = of_missing d has (record { rule = rule.V21; place = p; about = d.node.name.text }) (subst (λ b. Contains (if b then bad rule.V21 p d.node.name.text else []) (record { rule = rule.V21; place = p; about = d.node.name.text }))
        (sym (ap (λ b. b && lacks (is_given given d.node.name.text) (is_null_given given d.node.name.text)) needed ∙ lacked)) (Contains-here _ []))

    -- a field that is not known
    unknown_found : (f : Field) → find (λ (f : Field). not (is_defined st.input_fields f)) inputs ≡ Some f
        → stop Data reason.UnknownField (Key f.name ∷ []) ≡ refused r path → Found (l.Object p fs) all_bad r path
    unknown_found f first e =
        let there = found_in (λ (f : Field). not (is_defined st.input_fields f)) inputs f first in
        let g = given_from vs fs f there.0 in
        by_given g.0 g.1 (subst (λ (h : Field). not (is_defined st.input_fields h) ≡ true) (sym g.2) there.1)
        (subst (λ (h : Field). stop Data reason.UnknownField (Key h.name ∷ []) ≡ refused r path) (sym g.2) e) where
          not_found : (o : Option (Sited InputValueDefinition)) → not (is_some o) ≡ true → option_map field_of o ≡ None
          not_found None h = refl
          not_found (Some d) h = absurd (true≢false (sym h))

          by_given : (g : ObjectField) → Contains fs g → not (is_defined st.input_fields (literal_field vs g)) ≡ true → stop Data reason.UnknownField (Key g.name.text ∷ []) ≡ refused r path → Found (l.Object p fs) all_bad r path
          by_given g has un h = (
            record { rule = rule.V19; place = g.name.place; about = g.name.text },
            of_field g has (record { rule = rule.V19; place = g.name.place; about = g.name.text }) (subst (λ o. Contains (field_by g.name (value_of g.value) (λ t. misfits look t (value_of g.value)) o) (record { rule = rule.V19; place = g.name.place; about = g.name.text }))
                (sym (find_made field_of (λ (f : FieldForm). bytes_eq g.name.text f.name) st.input_fields
                ∙ not_found (find (λ (d : Sited InputValueDefinition). bytes_eq g.name.text d.node.name.text) st.input_fields) un)) (Contains-here _ [])),
            subst (λ q. Reports (l.Object p fs) q path (record { rule = rule.V19; place = g.name.place; about = g.name.text })) (same_reason Data reason.UnknownField r (Key g.name.text ∷ []) path h)
                (subst (λ q. Reports (l.Object p fs) reason.UnknownField q (record { rule = rule.V19; place = g.name.place; about = g.name.text })) (same_path Data reason.UnknownField r (Key g.name.text ∷ []) path h) (unknown p fs g has)),
          )

    -- a field that is not given
    default_found : (d : Sited InputValueDefinition) → Contains st.input_fields d → given_as d.node.name.text inputs ≡ None
        → default_of (coerced n s) d.node.name.text (written d.node.of_type) d.node.default ≡ refused r path → Found (l.Object p fs) all_bad r path
    default_found d has not_there e = by_default d.node.default refl e where
      by_mark : (b : Bool) → is_non_null (written d.node.of_type) ≡ b → d.node.default ≡ None
          → (if b then stop (Option Data) reason.MissingField (Key d.node.name.text ∷ []) else value None) ≡ refused r path → Found (l.Object p fs) all_bad r path
      by_mark true needed none h = (
        record { rule = rule.V21; place = p; about = d.node.name.text },
        missing_here d has (ap (λ b. b && not (is_some d.node.default)) needed ∙ ap (λ o. not (is_some o)) none)
            (ap (λ b. not b || is_null_given given d.node.name.text) (not_given vs d.node.name.text fs not_there)),
        subst (λ q. Reports (l.Object p fs) q path (record { rule = rule.V21; place = p; about = d.node.name.text })) (same_reason (Option Data) reason.MissingField r (Key d.node.name.text ∷ []) path h)
            (subst (λ q. Reports (l.Object p fs) reason.MissingField q (record { rule = rule.V21; place = p; about = d.node.name.text })) (same_path (Option Data) reason.MissingField r (Key d.node.name.text ∷ []) path h) (missing_field p fs d.node.name.text)),
      )
      by_mark false needed none h = absurd (not_value None r path h)

      by_default : (o : Option Literal) → d.node.default ≡ o → default_of (coerced n s) d.node.name.text (written d.node.of_type) o ≡ refused r path → Found (l.Object p fs) all_bad r path
      by_default None none h = by_mark (is_non_null (written d.node.of_type)) refl none h
      by_default (Some y) there h =
          let part = within_refused (Key d.node.name.text) (coerced n s (literal json.null y) (Some (written d.node.of_type))) r path h in
          let field = good d has in
          let found = at_types json.null y (field.constant y there) (written d.node.of_type) field.known r part.0 part.1 in
          absurd (fits_none y (written d.node.of_type) (field.default_fits y there) found.0 found.1)

    -- a field that is given
    value_found : (d : Sited InputValueDefinition) → Contains st.input_fields d → (g : ObjectField) → Contains fs g → d.node.name.text ≡ g.name.text
        → (more : List Segment) → Key d.node.name.text ∷ more ≡ path → coerced n s (literal vs g.value) (Some (written d.node.of_type)) ≡ refused r more → Found (l.Object p fs) all_bad r path
    value_found d has g there same more at e = by_null (is_null (value_of g.value) && is_required (field_of d)) refl where
      path_is : Key g.name.text ∷ more ≡ path
      path_is = ap (λ m. Key m ∷ more) (sym same) ∙ at

      form_is : field_named forms g.name.text ≡ Some (field_of d)
      form_is = ap (field_named forms) (sym same) ∙ (good d has).alone

      by_null : (b : Bool) → is_null (value_of g.value) && is_required (field_of d) ≡ b → Found (l.Object p fs) all_bad r path
      by_null false un =
          let found = at_types vs g.value (constant_fields p fs is g there) (written d.node.of_type) (good d has).known r more e in (
            found.0,
            of_field g there found.0 (subst (λ o. Contains (field_by g.name (value_of g.value) (λ t. misfits look t (value_of g.value)) o) found.0) (sym form_is)
                (subst (λ b. Contains (if b then [] else misfits look (written d.node.of_type) (value_of g.value)) found.0) (sym un) found.1)),
            subst (λ q. Reports (l.Object p fs) r q found.0) path_is (in_field p fs g there found.2),
          )
      by_null true so =
          let null_is = and_left (is_null (value_of g.value)) (is_required (field_of d)) so in
          let as_null = null_refused n vs (written d.node.of_type) g.value null_is r more e in (
            record { rule = rule.V21; place = p; about = g.name.text },
            subst (λ m. Contains all_bad (record { rule = rule.V21; place = p; about = m })) same
                (missing_here d has (and_right (is_null (value_of g.value)) (is_required (field_of d)) so)
                (or_right_true (not (is_given given d.node.name.text)) (has_any (λ (h : GivenField). bytes_eq d.node.name.text h.name.text && is_null h.value) (given_field g) given
                (Contains-map given_field fs g there) (both (bytes_eq d.node.name.text g.name.text) (is_null (value_of g.value)) (bytes_same d.node.name.text g.name.text same) null_is)))),
            subst (λ q. Reports (l.Object p fs) q path (record { rule = rule.V21; place = p; about = g.name.text })) (sym as_null.0)
                (subst (λ q. Reports (l.Object p fs) reason.NullForNonNull q (record { rule = rule.V21; place = p; about = g.name.text })) (ap (λ m. Key g.name.text ∷ m) (sym as_null.1) ∙ path_is) (null_given p fs g there null_is)),
          )

    -- a member
    entry_found : (d : Sited InputValueDefinition) → Contains st.input_fields d → (o : Option Input) → given_as d.node.name.text inputs ≡ o
        → after (if_given (coerced n s) d.node.name.text (Some d.node) o) (or_default (coerced n s) d.node.name.text (Some d.node)) ≡ refused r path → Found (l.Object p fs) all_bad r path
    entry_found d has None not_there e = default_found d has not_there e
    entry_found d has (Some y) there e =
        let g = given_there vs d.node.name.text fs y there in
        by_given g.0 g.1 g.3 (subst (λ z. after (within (Key d.node.name.text) (coerced n s z (Some (written d.node.of_type)))) (or_default (coerced n s) d.node.name.text (Some d.node)) ≡ refused r path) (sym g.2) e) where
          by_given : (g : ObjectField) → Contains fs g → d.node.name.text ≡ g.name.text
              → after (within (Key d.node.name.text) (coerced n s (literal vs g.value) (Some (written d.node.of_type)))) (or_default (coerced n s) d.node.name.text (Some d.node)) ≡ refused r path → Found (l.Object p fs) all_bad r path
          by_given g at same h = elim (after_refused (within (Key d.node.name.text) (coerced n s (literal vs g.value) (Some (written d.node.of_type)))) (or_default (coerced n s) d.node.name.text (Some d.node)) r path h) [
            | inl i ↦ let part = within_refused (Key d.node.name.text) (coerced n s (literal vs g.value) (Some (written d.node.of_type))) r path i in value_found d has g at same part.0 part.2 part.1
            | inr later ↦ by_result later.0 later.1 later.2
          ] where
            within_value : (o : Reached (Option Data)) → within (Key d.node.name.text) o ≡ value None → is_none o ≡ true
            within_value (value v) j = ap is_none j
            within_value (refused q more) j = absurd (true≢false (ap is_refused j))
            within_value too_deep j = absurd (true≢false (sym (ap is_none j)))

            by_result : (v : Option Data) → within (Key d.node.name.text) (coerced n s (literal vs g.value) (Some (written d.node.of_type))) ≡ value v
                → or_default (coerced n s) d.node.name.text (Some d.node) v ≡ refused r path → Found (l.Object p fs) all_bad r path
            by_result None i j = absurd (true≢false (sym (within_value (coerced n s (literal vs g.value) (Some (written d.node.of_type))) i) ∙ not_none n vs (Some (written d.node.of_type)) g.value (constant_fields p fs is g at)))
            by_result (Some d) i j = absurd (not_value (Some d) r path j)

    defined_found : (o : Option Field) → find (λ (f : Field). not (is_defined st.input_fields f)) inputs ≡ o
        → object_at (coerced n s) (unless_unknown o (are (map (defined_entry inputs) st.input_fields))) ≡ refused r path → Found (l.Object p fs) all_bad r path
    defined_found (Some f) first e = unknown_found f first e
    defined_found None first e =
        let m = member_refused (coerced n s) (map (defined_entry inputs) st.input_fields) r path e in
        let d = Contains-map_from (defined_entry inputs) st.input_fields m.0 m.1 in
        entry_found d.0 d.1 (given_as d.0.node.name.text inputs) refl (subst (λ (k : Entry). entry_at (coerced n s) k ≡ refused r path) (sym d.2) m.2)

  -- what does not fit of an object, by its input type
  abbrev pub bad_by : Place → Written → List ObjectField → InputForm → List BadValue
  bad_by p t fs i = object_by p t (all_fields (values.fields_of (map given_field fs))) (λ k m. within_fields k m (values.fields_of (map given_field fs)))
      (λ fields. fields_misfits look fields (values.fields_of (map given_field fs))) i

  -- an object, by its type
  object_found : HasGoodFields s → (n : ℕ) → AtType n → InCustom n → (vs : Data) (p : Place) (fs : List ObjectField) → IsConstant (l.Object p fs) → (t : Written) → IsKnown s t
      → (r : Reason) (path : List Segment) → object_at (coerced n s) (entries_for s (firsts (map (literal_field vs) fs)) (Some t)) ≡ refused r path
      → Found (l.Object p fs) (object_misfits look p t (values.fields_of (map given_field fs))) r path
  object_found good n at_types in_customs vs p fs is t known r path e = by_type (type_named s (name_in t)) refl known e where
    one_is : Own r path → Found (l.Object p fs) (at_one p t) r path
    one_is own = found_here (l.Object p fs) (values.object p (values.fields_of (map given_field fs))) (value_object p fs) r path _ own

    by_custom : (b : Bool) (st : SchemaType) → object_at (coerced n s) (if b then any_entries (firsts (map (literal_field vs) fs)) else no_object) ≡ refused r path
        → Found (l.Object p fs) (if b then within_fields file_scalar (name_in t) (values.fields_of (map given_field fs)) else at_one p t) r path
    by_custom true st h = any_object_found n in_customs vs p fs is (name_in t) r path h
    by_custom false st h = one_is (at_once Data reason.WrongKind r path refl h)

    by_kind : (st : SchemaType) → type_named s (name_in t) ≡ Some st → (k : TypeKind) → st.kind ≡ k → is_some (form_at (is_open s) st k) ≡ true
        → object_at (coerced n s) (entries_by (firsts (map (literal_field vs) fs)) (if is_input k then Some st else None)) ≡ refused r path
        → Found (l.Object p fs) (of_known (bad_by p t fs) (form_at (is_open s) st k)) r path
    by_kind st there kind.Scalar same k h = subst (λ bs. Found (l.Object p fs) bs r path)
        (sym (at_named (is_open s) p t (λ k m. within_fields k m (values.fields_of (map given_field fs))) (name_of st)))
        (by_custom (is_custom (scalar_named false (name_of st))) st
        (subst (λ c. object_at (coerced n s) (if is_custom_at (name_of st) c then any_entries (firsts (map (literal_field vs) fs)) else no_object) ≡ refused r path) same
        (subst (λ c. object_at (coerced n s) (entries_at_kind (firsts (map (literal_field vs) fs)) st c) ≡ refused r path) same h)))
    by_kind st there kind.Enum same k h = one_is (at_once Data reason.WrongKind r path refl (subst (λ c. object_at (coerced n s) (entries_at_kind (firsts (map (literal_field vs) fs)) st c) ≡ refused r path) same h))
    by_kind st there kind.InputObject same k h = defined_found n at_types vs p fs is st (λ d has. good (name_in t) st there d has) r path
        (find (λ (f : Field). not (is_defined st.input_fields f)) (firsts (map (literal_field vs) fs))) refl
        (subst (λ c. object_at (coerced n s) (entries_at_kind (firsts (map (literal_field vs) fs)) st c) ≡ refused r path) same h)
    by_kind st there kind.Object same k h = absurd (true≢false (sym k))
    by_kind st there kind.Interface same k h = absurd (true≢false (sym k))
    by_kind st there kind.Union same k h = absurd (true≢false (sym k))

    by_type : (u : Option SchemaType) → type_named s (name_in t) ≡ u → is_some (option_and_then (form_of (is_open s)) u) ≡ true
        → object_at (coerced n s) (entries_by (firsts (map (literal_field vs) fs)) (option_and_then if_input u)) ≡ refused r path
        → Found (l.Object p fs) (of_known (bad_by p t fs) (option_and_then (form_of (is_open s)) u)) r path
    by_type None there k h = absurd (true≢false (sym k))
    by_type (Some st) there k h = by_kind st there st.kind refl k h

  -- ---- every literal

  -- within a custom scalar
  in_custom : (n : ℕ) → InCustom n
  in_custom zero vs x is name r path e = absurd (not_deep (Option Data) r path (sym (no_level s (literal vs x) None) ∙ e))
  in_custom (suc n) vs x is m r path e = by_form (λ y. IsConstant y → coerced (suc n) s (literal vs y) None ≡ refused r path → Found y (within_custom file_scalar m (value_of y)) r path) record {
    object = λ p fs h i. subst (λ v. Found (l.Object p fs) (within_custom file_scalar m v) r path) (sym (value_object p fs))
        (any_object_found n (in_custom n) vs p fs h m r path (some_refused (object_at (coerced n s) (any_entries (firsts (map (literal_field vs) fs)))) r path (sym (coerced_object n s None vs p fs) ∙ i)));
    list = λ p xs h i. subst (λ v. Found (l.List p xs) (within_custom file_scalar m v) r path) (sym (value_list p xs))
        (any_list_found n (in_custom n) vs p xs h m r path (some_refused (array_of (item_at (coerced n s) None) (map (literal vs) xs)) r path (sym (coerced_list n s None vs p xs) ∙ i)));
    variable = λ p v h. absurd (no_variable p v h);
    int = λ p t h i. subst (λ v. Found (l.Int p t) (within_custom file_scalar m v) r path) (sym (value_int p t)) (any_single_found (l.Int p t) (values.int p t) (of_int t) (value_int p t) (scalar_takes_int t file_scalar) (int_taken t file_scalar) m r path (sym (coerced_int n s None vs p t) ∙ i));
    float = λ p t h i. subst (λ v. Found (l.Float p t) (within_custom file_scalar m v) r path) (sym (value_float p t))
        (any_single_found (l.Float p t) (values.float p t) (fraction (real_of t)) (value_float p t) (scalar_takes_float t file_scalar) (scalar_fraction t file_scalar) m r path (sym (coerced_float n s None vs p t) ∙ i));
    string = λ p t h i. absurd (not_value (json.string t) r path (sym (any_text (is_open s) t) ∙ some_refused (as_any (is_open s) (string_text t)) r path (sym (coerced_string n s None vs p t) ∙ i)));
    boolean = λ p b h i. absurd (not_value (json.boolean b) r path (sym (any_truth (is_open s) b) ∙ some_refused (as_any (is_open s) (truth b)) r path (sym (coerced_boolean n s None vs p b) ∙ i)));
    null = λ p h i. absurd (not_value json.null r path (some_refused (null_at None) r path (sym (coerced_null n s None vs p) ∙ i)));
    enum = λ p k h i. absurd (not_value (json.string k) r path (sym (any_name (is_open s) k) ∙ some_refused (as_any (is_open s) (enum_name k)) r path (sym (coerced_enum n s None vs p k) ∙ i)));
  } x is e

  -- at a type
  at_type_found : HasGoodFields s → (n : ℕ) → AtType n
  at_type_found good zero vs x is t known r path e = absurd (not_deep (Option Data) r path (sym (no_level s (literal vs x) (Some t)) ∙ e))
  at_type_found good (suc n) vs x is t known r path e = by_form (λ y. IsConstant y → coerced (suc n) s (literal vs y) (Some t) ≡ refused r path → Found y (misfits look t (value_of y)) r path) record {
    object = λ p fs h i. subst (λ bs. Found (l.Object p fs) bs r path) (sym (misfits_object look t p fs))
        (object_found good n (at_type_found good n) (in_custom n) vs p fs h t known r path
        (some_refused (object_at (coerced n s) (entries_for s (firsts (map (literal_field vs) fs)) (Some t))) r path
        (once_refused (Some t) (some (object_at (coerced n s) (entries_for s (firsts (map (literal_field vs) fs)) (Some t)))) r path (sym (coerced_object n s (Some t) vs p fs) ∙ i))));
    list = λ p xs h i. subst (λ bs. Found (l.List p xs) bs r path) (sym (misfits_list look t p xs))
        (list_found n (at_type_found good n) (in_custom n) vs p xs h t known r path
        (some_refused (list_by (coerced n s) (map (literal vs) xs) (items_expected s (Some t))) r path (sym (coerced_list n s (Some t) vs p xs) ∙ i)));
    variable = λ p v h. absurd (no_variable p v h);
    int = λ p w h i. subst (λ v. Found (l.Int p w) (misfits look t v) r path) (sym (value_int p w))
        (single_found (l.Int p w) (values.int p w) (of_int w) (value_int p w) (int_alike p w) t known r path (sym (coerced_int n s (Some t) vs p w) ∙ i));
    float = λ p w h i. subst (λ v. Found (l.Float p w) (misfits look t v) r path) (sym (value_float p w))
        (single_found (l.Float p w) (values.float p w) (fraction (real_of w)) (value_float p w) (float_alike p w) t known r path (sym (coerced_float n s (Some t) vs p w) ∙ i));
    string = λ p w h i. subst (λ v. Found (l.String p w) (misfits look t v) r path) (sym (value_string p w))
        (single_found (l.String p w) (values.string p) (string_text w) (value_string p w) (string_alike p w) t known r path (sym (coerced_string n s (Some t) vs p w) ∙ i));
    boolean = λ p b h i. subst (λ v. Found (l.Boolean p b) (misfits look t v) r path) (sym (value_boolean p b))
        (single_found (l.Boolean p b) (values.boolean p) (truth b) (value_boolean p b) (boolean_alike p b) t known r path (sym (coerced_boolean n s (Some t) vs p b) ∙ i));
    null = λ p h i. subst (λ bs. Found (l.Null p) bs r path) (sym (misfits_null look t p)) (null_found p t known r path (sym (coerced_null n s (Some t) vs p) ∙ i));
    enum = λ p k h i. subst (λ v. Found (l.Enum p k) (misfits look t v) r path) (sym (value_enum p k))
        (single_found (l.Enum p k) (values.enum p k) (enum_name k) (value_enum p k) (enum_alike p k) t known r path (sym (coerced_enum n s (Some t) vs p k) ∙ i));
  } x is e

pub refusal_is_reported : (s : Schema) → HasGoodFields s → (t : Written) → IsKnown s t → (x : Literal) → IsConstant x → (vs : Data) (r : Reason) (path : List Segment)
    → Comes s (literal vs x) t (comes.refused r path) → Found x (bad_values s x t) r path
refusal_is_reported s good t known x is vs r path comes =
    let found = at_type_found s good (comes.0 + 0) vs x is t known r path (comes.1 0) in
    (found.0, Contains-append_left (misfits (in_schema s) t (value_of x)) (repeats (value_of x)) found.0 found.1, found.2)
