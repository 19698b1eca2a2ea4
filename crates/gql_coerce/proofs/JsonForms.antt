-- What each form of a value of JSON comes to.
use Rattle.std.proofs.Common.{◌≡◌, ℕ, zero, suc, List, [], ◌∷◌, Bool, true, false, String, Vec, BTreeMap, Global, map, string_bytes, refl, ap, ◌∙◌, rules}
use Rattle.gql_types.specs.Written.{Written}
use Rattle.gql_types.specs.declared.schema.Schema.{Schema}
use Rattle.serde_json.proofs.Views.{view-Array, view-Object}
use Rattle.serde_json.specs.Data as json
use Rattle.serde_json.specs.Data.{Data}
use Rattle.serde_json.specs.View.{view, number_view, items_view}
use Rattle.serde_json.specs.declared.number.Number.{Number as ANumber}
use Rattle.serde_json.specs.declared.value.Value.{Value, Null, Bool as Truth, Number, String as Text, Array, Object, the_lemmas}
use Rattle.gql_coerce.specs.Coercion.{coerced, at_level, once, single_at, null_at, list_by, items_expected, object_at, entries_for}
use Rattle.gql_coerce.specs.Inputs.{Input, all_inputs, json_input, json_inputs, truth, json_text, of_number, may_be_list}
use Rattle.gql_coerce.specs.JsonEntries.{fields_in}
use Rattle.gql_coerce.specs.Outcomes.{Reached, value, refused, too_deep, some}
use Rattle.gql_coerce.proofs.Reading.{level, no_level}
use Rattle.std.specs.Prelude.{Option, Some, None}

is_null : view Null ≡ json.null
is_null = search (rules, the_lemmas)

is_bool : (b : Bool) → view (Truth b) ≡ json.boolean b
is_bool b = search (rules, the_lemmas)

is_number : (n : ANumber) → view (Number n) ≡ json.number (number_view n)
is_number n = search (rules, the_lemmas)

is_string : (s : String Global) → view (Text s) ≡ json.string (string_bytes s)
is_string s = search (rules, the_lemmas)

inputs_in : (vs : List Value) → all_inputs (json_inputs (items_view vs)) ≡ map (λ v. json_input (view v)) vs
inputs_in [] = refl
inputs_in (v ∷ vs) = ap (λ xs. json_input (view v) ∷ xs) (inputs_in vs)

module _ (n : ℕ) (s : Schema) (e : Option Written) where
  pub coerced_null : coerced (suc n) s (json_input (view Null)) e ≡ some (null_at e)
  coerced_null = ap (λ d. coerced (suc n) s (json_input d) e) is_null ∙ level n s _ e

  pub coerced_bool : (b : Bool) → coerced (suc n) s (json_input (view (Truth b))) e ≡ once e (some (single_at s e (truth b)))
  coerced_bool b = ap (λ d. coerced (suc n) s (json_input d) e) (is_bool b) ∙ level n s _ e

  pub coerced_number : (x : ANumber) → coerced (suc n) s (json_input (view (Number x))) e ≡ once e (some (single_at s e (of_number (number_view x))))
  coerced_number x = ap (λ d. coerced (suc n) s (json_input d) e) (is_number x) ∙ level n s _ e

  pub coerced_string : (t : String Global) → coerced (suc n) s (json_input (view (Text t))) e ≡ once e (some (single_at s e (json_text (string_bytes t))))
  coerced_string t = ap (λ d. coerced (suc n) s (json_input d) e) (is_string t) ∙ level n s _ e

  pub coerced_array : (vs : Vec Value Global) → coerced (suc n) s (json_input (view (Array vs))) e ≡ some (list_by (coerced n s) (map (λ v. json_input (view v)) vs.items) (items_expected s e))
  coerced_array vs = ap (λ d. coerced (suc n) s (json_input d) e) (view-Array vs) ∙ level n s _ e ∙ ap (λ xs. some (list_by (coerced n s) xs (items_expected s e))) (inputs_in vs.items)

  pub coerced_object : (m : BTreeMap (String Global) Value) → coerced (suc n) s (json_input (view (Object m))) e ≡ once e (some (object_at (coerced n s) (entries_for s (fields_in m.entries) e)))
  coerced_object m = ap (λ d. coerced (suc n) s (json_input d) e) (view-Object m) ∙ level n s _ e

pub may_null : may_be_list (json_input (view Null)) ≡ true
may_null = ap (λ d. may_be_list (json_input d)) is_null

pub may_bool : (b : Bool) → may_be_list (json_input (view (Truth b))) ≡ false
may_bool b = ap (λ d. may_be_list (json_input d)) (is_bool b)

pub may_number : (n : ANumber) → may_be_list (json_input (view (Number n))) ≡ false
may_number n = ap (λ d. may_be_list (json_input d)) (is_number n)

pub may_string : (s : String Global) → may_be_list (json_input (view (Text s))) ≡ false
may_string s = ap (λ d. may_be_list (json_input d)) (is_string s)

pub may_array : (vs : Vec Value Global) → may_be_list (json_input (view (Array vs))) ≡ true
may_array vs = ap (λ d. may_be_list (json_input d)) (view-Array vs)

pub may_object : (m : BTreeMap (String Global) Value) → may_be_list (json_input (view (Object m))) ≡ false
may_object m = ap (λ d. may_be_list (json_input d)) (view-Object m)

-- ---- a value of JSON is always there

abbrev pub is_nothing : Reached (Option Data) → Bool
is_nothing (value None) = true
is_nothing (value (Some d)) = false
is_nothing (refused r path) = false
is_nothing too_deep = false

some_is : (o : Reached Data) → is_nothing (some o) ≡ false
some_is (value d) = refl
some_is (refused r path) = refl
some_is too_deep = refl

once_is : (e : Option Written) (o : Reached Data) → is_nothing (once e (some o)) ≡ false
once_is None o = some_is o
once_is (Some t) (value d) = refl
once_is (Some t) (refused r path) = refl
once_is (Some t) too_deep = refl

module _ (s : Schema) (e : Option Written) where
  by_level : (inner : Input → Option Written → Reached (Option Data)) (d : Data) → is_nothing (at_level inner s (json_input d) e) ≡ false
  by_level inner json.null = some_is (null_at e)
  by_level inner (json.boolean b) = once_is e _
  by_level inner (json.number n) = once_is e _
  by_level inner (json.string t) = once_is e _
  by_level inner (json.array ds) = some_is _
  by_level inner (json.object ms) = once_is e _

  pub is_there : (n : ℕ) (d : Data) → is_nothing (coerced n s (json_input d) e) ≡ false
  is_there zero d = ap is_nothing (no_level s (json_input d) e)
  is_there (suc n) d = ap is_nothing (level n s (json_input d) e) ∙ by_level (coerced n s) d
