-- What does not fit the type that is expected, by the forms of a literal.
use Rattle.std.specs.Prelude.{◌≡◌, ◌++◌, ℕ, List, [], ◌∷◌, Bool, map, flat_map, refl, Option, Some, option_map}
use Rattle.std.proofs.Common.{ap, sym, ◌∙◌}
use Rattle.gql_text.specs.declared.place.Place.{Place}
use Rattle.gql_ast.specs.declared.literal.Literal.{Literal}
use Rattle.gql_ast.specs.declared.literal.Literal.TheVariants as l
use Rattle.gql_ast.specs.declared.literal.ObjectField.{ObjectField}
use Rattle.gql_types.specs.Written.{Written}
use Rattle.gql_inputs.specs.BadValues.{of_known, misfits, items_misfits, fields_misfits, item_misfits, field_misfits, list_misfits, object_misfits, object_by, single_misfits, null_misfits, missing, within_fields}
use Rattle.gql_inputs.specs.InputTypes.{name_in}
use Rattle.gql_inputs.specs.Lookups.{InputForm, scalar, enumeration, input_object, FieldForm, InputLookup, fields_in, kind_of}
use Rattle.gql_inputs.specs.declared.input_types.InputKind.TheVariants as input_kind
use Rattle.gql_inputs.specs.Values.{GivenField, value_of, values_of, fields_of, all_fields, given_field}
use Rattle.gql_inputs.proofs.ValueForms.{value_variable, value_int, value_float, value_string, value_boolean, value_null, value_enum, value_list, value_object, all_fields_of}

-- what an answer is, where something is known
pub known_as : {A : Type 0} (form : A → InputForm) (o : Option A) (a : A) (known : Option InputForm) → option_map form o ≡ known → o ≡ Some a → known ≡ Some (form a)
known_as form o a known e is = sym e ∙ ap (option_map form) is

module _ (look : InputLookup) where
  pub items_misfits_is : (item : Written) (items : List Literal) → items_misfits look item (values_of (map value_of items))
      ≡ flat_map (λ (x : Literal). item_misfits look item (value_of x)) items
  items_misfits_is item [] = refl
  items_misfits_is item (x ∷ items) = ap (λ r. item_misfits look item (value_of x) ++ r) (items_misfits_is item items)

  pub fields_misfits_is : (fields : List FieldForm) (given : List GivenField) → fields_misfits look fields (fields_of given)
      ≡ flat_map (field_misfits look fields) given
  fields_misfits_is fields [] = refl
  fields_misfits_is fields (g ∷ given) = ap (λ r. field_misfits look fields g ++ r) (fields_misfits_is fields given)

  module _ (t : Written) (place : Place) where
    -- an object at an input object type
    pub object_at_input : (given : List GivenField) (i : InputForm) → look (name_in t) ≡ Some i → input_kind.InputObject ≡ kind_of i
        → object_misfits look place t (fields_of given) ≡ flat_map (field_misfits look (fields_in i)) given ++ flat_map (missing place given) (fields_in i)
    object_at_input given (scalar s) known k = cc
    object_at_input given (enumeration values) known k = cc
    object_at_input given (input_object fields) known k =
        ap (of_known (object_by place t (all_fields (fields_of given)) (λ s name. within_fields s name (fields_of given)) (λ fs. fields_misfits look fs (fields_of given)))) known
        ∙ (ap (λ r. r ++ flat_map (missing place (all_fields (fields_of given))) fields) (fields_misfits_is fields given)
        ∙ ap (λ gs. flat_map (field_misfits look fields) given ++ flat_map (missing place gs) fields) (all_fields_of given))

    pub misfits_variable : (name : List ℕ) → misfits look t (value_of (l.Variable place name)) ≡ []
    misfits_variable name = ap (misfits look t) (value_variable place name)

    pub misfits_int : (text : List ℕ) → misfits look t (value_of (l.Int place text)) ≡ single_misfits look t (value_of (l.Int place text))
    misfits_int text = ap (misfits look t) (value_int place text) ∙ ap (single_misfits look t) (sym (value_int place text))

    pub misfits_float : (text : List ℕ) → misfits look t (value_of (l.Float place text)) ≡ single_misfits look t (value_of (l.Float place text))
    misfits_float text = ap (misfits look t) (value_float place text) ∙ ap (single_misfits look t) (sym (value_float place text))

    pub misfits_string : (text : List ℕ) → misfits look t (value_of (l.String place text)) ≡ single_misfits look t (value_of (l.String place text))
    misfits_string text = ap (misfits look t) (value_string place text) ∙ ap (single_misfits look t) (sym (value_string place text))

    pub misfits_boolean : (truth : Bool) → misfits look t (value_of (l.Boolean place truth)) ≡ single_misfits look t (value_of (l.Boolean place truth))
    misfits_boolean truth = ap (misfits look t) (value_boolean place truth) ∙ ap (single_misfits look t) (sym (value_boolean place truth))

    pub misfits_enum : (name : List ℕ) → misfits look t (value_of (l.Enum place name)) ≡ single_misfits look t (value_of (l.Enum place name))
    misfits_enum name = ap (misfits look t) (value_enum place name) ∙ ap (single_misfits look t) (sym (value_enum place name))

    pub misfits_null : misfits look t (value_of (l.Null place)) ≡ null_misfits look place t
    misfits_null = ap (misfits look t) (value_null place)

    pub misfits_list : (items : List Literal) → misfits look t (value_of (l.List place items)) ≡ list_misfits look place t (values_of (map value_of items))
    misfits_list items = ap (misfits look t) (value_list place items)

    pub misfits_object : (fields : List ObjectField) → misfits look t (value_of (l.Object place fields)) ≡ object_misfits look place t (fields_of (map given_field fields))
    misfits_object fields = ap (misfits look t) (value_object place fields)
