-- What of a value does not fit its type (GraphQL specification, 5.6): a case for each sentence of the
-- rules V18 to V21. The law `bad_values` says that these are exactly the faults of `bad_values_by`,
-- which the contracts of gql_inputs cite.
use Rattle.std.specs.Prelude.{◌≡◌, ◌&&◌, ◌⊎◌, ◌↔◌, ℕ, List, [], ◌∷◌, Contains, true, false, not, Some, None}
use Rattle.gql_text.specs.declared.place.Place.{Place}
use Rattle.gql_ast.specs.declared.rule.Rule.TheVariants as rule
use Rattle.gql_types.specs.Written.{Written}
use Rattle.gql_inputs.specs.BadValues.{bad_values_by, expected, field_repeats, is_custom_form, is_given, is_null_given, scalar_takes_float, scalar_takes_int, takes}
use Rattle.gql_inputs.specs.InputTypes.{is_custom, is_list, is_non_null, item_of, name_in, one_of, text_of}
use Rattle.gql_inputs.specs.Lookups.{InputForm, scalar, input_object, FieldForm, InputLookup, field_named, is_required}
use Rattle.gql_inputs.specs.Values.{Value, null, int, float, string, boolean, enum, list, object, Values, no_values, value, Fields, GivenField, all_fields, is_null, may_be_list, place_of}
use Rattle.gql_inputs.specs.declared.bad_value.BadValue.{BadValue}
use Rattle.gql_inputs.specs.declared.scalar.Scalar.{Scalar}

-- a fault by V18, at a place, about the text of a type
abbrev pub v18 : Place → List ℕ → BadValue
v18 p about = record { rule = rule.V18; place = p; about = about }

-- the items of a list
abbrev pub all_values : Values → List Value
all_values no_values = []
all_values (value x xs) = x ∷ all_values xs

-- a value without parts
pub data IsSingle : Value → Type 0 where
  an_int : {p : Place} {text : List ℕ} → IsSingle (int p text)
  a_float : {p : Place} {text : List ℕ} → IsSingle (float p text)
  a_string : {p : Place} → IsSingle (string p)
  a_boolean : {p : Place} → IsSingle (boolean p)
  an_enum : {p : Place} {name : List ℕ} → IsSingle (enum p name)

-- V18 within a value that a custom scalar takes, by the scalar and its name: it takes the same
-- numbers wherever they are (this registry's own rule)
pub data MisfitsWithin (s : Scalar) (name : List ℕ) : Value → BadValue → Type 0 where
  integer : {p : Place} {text : List ℕ} → scalar_takes_int text s ≡ false
      → MisfitsWithin s name (int p text) (v18 p name)
  fraction : {p : Place} {text : List ℕ} → scalar_takes_float text s ≡ false
      → MisfitsWithin s name (float p text) (v18 p name)
  within_item : {p : Place} {xs : Values} {x : Value} {b : BadValue} → Contains (all_values xs) x
      → MisfitsWithin s name x b → MisfitsWithin s name (list p xs) b
  within_field : {p : Place} {fs : Fields} {g : GivenField} {b : BadValue}
      → Contains (all_fields fs) g → MisfitsWithin s name g.value b
      → MisfitsWithin s name (object p fs) b

-- V21: a required field of the type is not given, or given as null
abbrev pub IsMissing : List GivenField → FieldForm → Type 0
IsMissing given f = (is_required f ≡ true)
    × ((is_given given f.name ≡ false) ⊎ (is_null_given given f.name ≡ true))

-- no item of its type is a list of one (3.11): a list, null or a variable is due where lists are
abbrev pub IsUnlisted : Written → Value → Type 0
IsUnlisted item x = (is_list item && not (may_be_list x)) ≡ true

-- null for a required field is V21 alone
abbrev pub IsNullRequired : Value → FieldForm → Type 0
IsNullRequired x f = (is_null x && is_required f) ≡ true

-- V18, V19 and V21 of a value at a type. Where the type is not known, nothing is said of it.
pub data Misfits (look : InputLookup) : Written → Value → BadValue → Type 0 where
  -- null at a Non-Null type
  null_at_non_null : {t : Written} {p : Place} {i : InputForm} → is_non_null t ≡ true
      → look (name_in t) ≡ Some i → Misfits look t (null p) (v18 p (text_of t))
  -- a value without parts that the type does not take
  not_taken : {t : Written} {x : Value} {i : InputForm} → IsSingle x → look (name_in t) ≡ Some i
      → takes x i ≡ false → Misfits look t x (v18 (place_of x) (expected t i))
  -- a list where none is expected; a custom scalar takes it, if it takes what is in it
  unexpected_list : {t : Written} {p : Place} {xs : Values} {i : InputForm} → item_of t ≡ None
      → look (name_in t) ≡ Some i → is_custom_form i ≡ false
      → Misfits look t (list p xs) (v18 p (text_of (one_of t)))
  in_custom_list : {t : Written} {p : Place} {xs : Values} {s : Scalar} {b : BadValue}
      → item_of t ≡ None → look (name_in t) ≡ Some (scalar s) → is_custom s ≡ true
      → MisfitsWithin s (name_in t) (list p xs) b → Misfits look t (list p xs) b
  -- an item of a list that is no list, where the items are lists: no list of one is made of it
  unlisted_item : {t item : Written} {p : Place} {xs : Values} {x : Value} {i : InputForm}
      → item_of t ≡ Some item → Contains (all_values xs) x → IsUnlisted item x
      → look (name_in item) ≡ Some i
      → Misfits look t (list p xs) (v18 (place_of x) (text_of item))
  in_item : {t item : Written} {p : Place} {xs : Values} {x : Value} {b : BadValue}
      → item_of t ≡ Some item → Contains (all_values xs) x → (IsUnlisted item x → ⊥)
      → Misfits look item x b → Misfits look t (list p xs) b
  -- an object where none is expected; a custom scalar takes it, if it takes what is in it
  unexpected_object : {t : Written} {p : Place} {fs : Fields} {i : InputForm}
      → look (name_in t) ≡ Some i → ((fields : List FieldForm) → i ≡ input_object fields → ⊥)
      → is_custom_form i ≡ false → Misfits look t (object p fs) (v18 p (text_of (one_of t)))
  in_custom_object : {t : Written} {p : Place} {fs : Fields} {s : Scalar} {b : BadValue}
      → look (name_in t) ≡ Some (scalar s) → is_custom s ≡ true
      → MisfitsWithin s (name_in t) (object p fs) b → Misfits look t (object p fs) b
  -- V19: a field that the type does not define
  unknown_field : {t : Written} {p : Place} {fs : Fields} {fields : List FieldForm}
      {g : GivenField} → look (name_in t) ≡ Some (input_object fields)
      → Contains (all_fields fs) g → field_named fields g.name.text ≡ None
      → Misfits look t (object p fs)
      (record { rule = rule.V19; place = g.name.place; about = g.name.text })
  in_field : {t : Written} {p : Place} {fs : Fields} {fields : List FieldForm}
      {g : GivenField} {f : FieldForm} {b : BadValue}
      → look (name_in t) ≡ Some (input_object fields) → Contains (all_fields fs) g
      → field_named fields g.name.text ≡ Some f → (IsNullRequired g.value f → ⊥)
      → Misfits look f.of_type g.value b → Misfits look t (object p fs) b
  missing_field : {t : Written} {p : Place} {fs : Fields} {fields : List FieldForm}
      {f : FieldForm} → look (name_in t) ≡ Some (input_object fields) → Contains fields f
      → IsMissing (all_fields fs) f
      → Misfits look t (object p fs) (record { rule = rule.V21; place = p; about = f.name })

-- V20, in every object, whatever is expected: a field whose name another one has
pub data Repeats : Value → BadValue → Type 0 where
  own_field : {p : Place} {fs : Fields} {b : BadValue} → Contains (field_repeats (all_fields fs)) b
      → Repeats (object p fs) b
  repeats_in_item : {p : Place} {xs : Values} {x : Value} {b : BadValue}
      → Contains (all_values xs) x → Repeats x b → Repeats (list p xs) b
  repeats_in_field : {p : Place} {fs : Fields} {g : GivenField} {b : BadValue}
      → Contains (all_fields fs) g → Repeats g.value b → Repeats (object p fs) b

-- the bad values of a value at a type
abbrev pub BadValuesInCases : Type 0
BadValuesInCases = (look : InputLookup) (t : Written) (x : Value) (b : BadValue)
    → Contains (bad_values_by look x t) b ↔ (Misfits look t x b ⊎ Repeats x b)
