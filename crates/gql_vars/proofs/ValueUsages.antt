-- The faults by V29 in each form of a value.
use Rattle.std.specs.Prelude.{◌≡◌, ℕ, List, [], ◌∷◌, ◌++◌, map, flat_map, refl, Bool, Some, None}
use Rattle.std.specs.Option.{option_map_or}
use Rattle.std.proofs.Common.{ap, sym, ◌∙◌, append-nil}
use Rattle.gql_text.specs.declared.place.Place.{Place}
use Rattle.gql_ast.specs.declared.fault.Fault.{Fault}
use Rattle.gql_ast.specs.declared.literal.Literal.{Literal}
use Rattle.gql_ast.specs.declared.literal.Literal.TheVariants as l
use Rattle.gql_ast.specs.declared.literal.ObjectField.{ObjectField}
use Rattle.gql_types.specs.Written.{Written}
use Rattle.gql_facts.specs.Worlds.{Facts}
use Rattle.gql_inputs.specs.InputTypes.{name_in, item_of}
use Rattle.gql_inputs.specs.Lookups.{InputForm, FieldForm, field_named, fields_in}
use Rattle.gql_inputs.specs.Values.{variable, GivenField, value_of, values_of, fields_of, given_field}
use Rattle.gql_inputs.proofs.ValueForms.{value_variable, value_int, value_float, value_string, value_boolean, value_null, value_enum, value_list, value_object}
use Rattle.gql_rules.specs.KnownInputs.{known_inputs}
use Rattle.gql_vars.specs.declared.usage_check.UsageCheck.{UsageCheck}
use Rattle.gql_vars.specs.Misuses.{first_named, misuse_by, misuses, value_misuses, list_misuses, item_misuses, object_misuses, field_misuses}
use Rattle.gql_vars.specs.Usages.{Location, Usage, value_usages, item_usages, field_usages, by_item, if_item, by_field, location_of_item}

append_assoc : {A : Type 0} (a b c : List A) → (a ++ b) ++ c ≡ a ++ (b ++ c)
append_assoc [] b c = refl
append_assoc (x ∷ a) b c = ap (λ l. x ∷ l) (append_assoc a b c)

pub flat_append : {A B : Type 0} (f : A → List B) (xs ys : List A) → flat_map f (xs ++ ys) ≡ flat_map f xs ++ flat_map f ys
flat_append f [] ys = refl
flat_append f (x ∷ xs) ys = ap (λ l. f x ++ l) (flat_append f xs ys) ∙ sym (append_assoc (f x) (flat_map f xs) (flat_map f ys))

-- a value without variables
pub no_misuses : (old : List Fault) (facts : Facts) (c : UsageCheck) (at : Location) (x : Literal)
    → value_misuses facts c at (value_of x) ≡ [] → old ≡ old ++ value_misuses facts c at (value_of x)
no_misuses old facts c at x is = rw is (sym (append-nil old))

-- a list where no list is expected
pub no_list : (old : List Fault) (facts : Facts) (c : UsageCheck) (t : Written) (items : List Literal) → item_of t ≡ None
    → old ≡ old ++ list_misuses facts c t (values_of (map value_of items))
no_list old facts c t items is = rw is (sym (append-nil old))

module _ (facts : Facts) (c : UsageCheck) where
  abbrev at_use : Usage → List Fault
  at_use = misuse_by facts c.owner.now (first_named c)

  -- the items of a list, one after the other
  items_are : (item : Written) (items : List Literal) → misuses facts c (item_usages (known_inputs facts) c.file.now item (values_of (map value_of items)))
      ≡ flat_map (λ (x : Literal). item_misuses facts c item (value_of x)) items
  items_are item [] = refl
  items_are item (x ∷ items) =
      flat_append at_use (if_item item (value_of x) (value_usages (known_inputs facts) c.file.now (location_of_item item) (value_of x)))
      (item_usages (known_inputs facts) c.file.now item (values_of (map value_of items)))
      ∙ ap (λ r. item_misuses facts c item (value_of x) ++ r) (items_are item items)

  pub in_items : (t item : Written) (items : List Literal) → Some item ≡ item_of t
      → list_misuses facts c t (values_of (map value_of items)) ≡ flat_map (λ (x : Literal). item_misuses facts c item (value_of x)) items
  in_items t item items is =
      ap (λ o. misuses facts c (by_item (λ i. item_usages (known_inputs facts) c.file.now i (values_of (map value_of items))) o)) (sym is) ∙ items_are item items

  -- the fields of an object, one after the other
  pub fields_are : (fields : List FieldForm) (given : List GivenField) → misuses facts c (field_usages (known_inputs facts) c.file.now fields (fields_of given))
      ≡ flat_map (field_misuses facts c fields) given
  fields_are fields [] = refl
  fields_are fields (g ∷ given) =
      flat_append at_use (by_field (λ at. value_usages (known_inputs facts) c.file.now at g.value) (field_named fields g.name.text))
      (field_usages (known_inputs facts) c.file.now fields (fields_of given))
      ∙ ap (λ r. field_misuses facts c fields g ++ r) (fields_are fields given)

  -- an object where an input object is expected, or another known type
  pub in_known : (t : Written) (i : InputForm) (given : List GivenField) → known_inputs facts (name_in t) ≡ Some i
      → object_misuses facts c t (fields_of given) ≡ flat_map (field_misuses facts c (fields_in i)) given
  in_known t i given is = ap (λ o. misuses facts c (field_usages (known_inputs facts) c.file.now (option_map_or fields_in o []) (fields_of given))) is
      ∙ fields_are (fields_in i) given

  none_has : (given : List GivenField) → flat_map (field_misuses facts c []) given ≡ []
  none_has [] = refl
  none_has (g ∷ given) = none_has given

  -- an object where nothing known is expected
  pub in_unknown : (old : List Fault) (t : Written) (given : List GivenField) → known_inputs facts (name_in t) ≡ None
      → old ≡ old ++ object_misuses facts c t (fields_of given)
  in_unknown old t given is =
      sym (ap (λ l. old ++ l) (ap (λ o. misuses facts c (field_usages (known_inputs facts) c.file.now (option_map_or fields_in o []) (fields_of given))) is
      ∙ (fields_are [] given ∙ none_has given)) ∙ append-nil old)

  module _ (at : Location) (place : Place) where
    pub in_variable : (name : List ℕ) → value_misuses facts c at (value_of (l.Variable place name)) ≡ value_misuses facts c at (variable place name)
    in_variable name = ap (value_misuses facts c at) (value_variable place name)

    pub in_int : (text : List ℕ) → value_misuses facts c at (value_of (l.Int place text)) ≡ []
    in_int text = ap (value_misuses facts c at) (value_int place text)

    pub in_float : (text : List ℕ) → value_misuses facts c at (value_of (l.Float place text)) ≡ []
    in_float text = ap (value_misuses facts c at) (value_float place text)

    pub in_string : (text : List ℕ) → value_misuses facts c at (value_of (l.String place text)) ≡ []
    in_string text = ap (value_misuses facts c at) (value_string place text)

    pub in_boolean : (truth : Bool) → value_misuses facts c at (value_of (l.Boolean place truth)) ≡ []
    in_boolean truth = ap (value_misuses facts c at) (value_boolean place truth)

    pub in_null : value_misuses facts c at (value_of (l.Null place)) ≡ []
    in_null = ap (value_misuses facts c at) (value_null place)

    pub in_enum : (name : List ℕ) → value_misuses facts c at (value_of (l.Enum place name)) ≡ []
    in_enum name = ap (value_misuses facts c at) (value_enum place name)

    pub in_list : (items : List Literal) → value_misuses facts c at (value_of (l.List place items))
        ≡ list_misuses facts c at.expected (values_of (map value_of items))
    in_list items = ap (value_misuses facts c at) (value_list place items)

    pub in_object : (fields : List ObjectField) → value_misuses facts c at (value_of (l.Object place fields))
        ≡ object_misuses facts c at.expected (fields_of (map given_field fields))
    in_object fields = ap (value_misuses facts c at) (value_object place fields)
