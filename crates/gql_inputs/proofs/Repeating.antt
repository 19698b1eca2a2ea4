-- Which fields occur more than once, by the forms of a literal.
use Rattle.std.specs.Prelude.{◌≡◌, ◌++◌, ℕ, List, [], ◌∷◌, Bool, map, flat_map, refl}
use Rattle.std.proofs.Common.{ap, ◌∙◌}
use Rattle.gql_text.specs.declared.place.Place.{Place}
use Rattle.gql_ast.specs.declared.literal.Literal.{Literal}
use Rattle.gql_ast.specs.declared.literal.Literal.TheVariants as l
use Rattle.gql_ast.specs.declared.literal.ObjectField.{ObjectField}
use Rattle.gql_inputs.specs.BadValues.{repeats, repeats_in_values, repeats_in_fields, field_repeats}
use Rattle.gql_inputs.specs.Values.{value_of, values_of, fields_of, given_field}
use Rattle.gql_inputs.proofs.ValueForms.{value_variable, value_int, value_float, value_string, value_boolean, value_null, value_enum, value_list, value_object, all_fields_of}

in_values : (items : List Literal) → repeats_in_values (values_of (map value_of items)) ≡ flat_map (λ (x : Literal). repeats (value_of x)) items
in_values [] = refl
in_values (x ∷ items) = ap (λ r. repeats (value_of x) ++ r) (in_values items)

in_fields : (fields : List ObjectField) → repeats_in_fields (fields_of (map given_field fields)) ≡ flat_map (λ (f : ObjectField). repeats (value_of f.value)) fields
in_fields [] = refl
in_fields (f ∷ fields) = ap (λ r. repeats (value_of f.value) ++ r) (in_fields fields)

module _ (place : Place) where
  pub repeats_variable : (n : List ℕ) → repeats (value_of (l.Variable place n)) ≡ []
  repeats_variable n = ap repeats (value_variable place n)

  pub repeats_int : (text : List ℕ) → repeats (value_of (l.Int place text)) ≡ []
  repeats_int text = ap repeats (value_int place text)

  pub repeats_float : (text : List ℕ) → repeats (value_of (l.Float place text)) ≡ []
  repeats_float text = ap repeats (value_float place text)

  pub repeats_string : (text : List ℕ) → repeats (value_of (l.String place text)) ≡ []
  repeats_string text = ap repeats (value_string place text)

  pub repeats_boolean : (truth : Bool) → repeats (value_of (l.Boolean place truth)) ≡ []
  repeats_boolean truth = ap repeats (value_boolean place truth)

  pub repeats_null : repeats (value_of (l.Null place)) ≡ []
  repeats_null = ap repeats (value_null place)

  pub repeats_enum : (n : List ℕ) → repeats (value_of (l.Enum place n)) ≡ []
  repeats_enum n = ap repeats (value_enum place n)

  pub repeats_list : (items : List Literal) → repeats (value_of (l.List place items)) ≡ flat_map (λ (x : Literal). repeats (value_of x)) items
  repeats_list items = ap repeats (value_list place items) ∙ in_values items

  pub repeats_object : (fields : List ObjectField) → repeats (value_of (l.Object place fields)) ≡ field_repeats (map given_field fields) ++ flat_map (λ (f : ObjectField). repeats (value_of f.value)) fields
  repeats_object fields = ap repeats (value_object place fields)
      ∙ (ap (λ gs. field_repeats gs ++ repeats_in_fields (fields_of (map given_field fields))) (all_fields_of (map given_field fields))
      ∙ ap (λ r. field_repeats (map given_field fields) ++ r) (in_fields fields))
