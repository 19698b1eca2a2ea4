-- What a custom scalar does not take, by the forms of a literal.
use Rattle.std.specs.Prelude.{◌≡◌, ◌++◌, ℕ, List, [], ◌∷◌, Bool, map, flat_map, refl, if◌then◌else◌}
use Rattle.std.proofs.Common.{ap, ◌∙◌}
use Rattle.gql_text.specs.declared.place.Place.{Place}
use Rattle.gql_ast.specs.declared.literal.Literal.{Literal}
use Rattle.gql_ast.specs.declared.literal.Literal.TheVariants as l
use Rattle.gql_ast.specs.declared.literal.ObjectField.{ObjectField}
use Rattle.gql_ast.specs.declared.rule.Rule.TheVariants as rule
use Rattle.gql_inputs.specs.BadValues.{bad, scalar_takes_float, scalar_takes_int, within, within_values, within_fields}
use Rattle.gql_inputs.specs.Values.{value_of, values_of, fields_of, given_field}
use Rattle.gql_inputs.specs.declared.scalar.Scalar.{Scalar}
use Rattle.gql_inputs.proofs.ValueForms.{value_variable, value_int, value_float, value_string, value_boolean, value_null, value_enum, value_list, value_object}

module _ (s : Scalar) (name : List ℕ) where
  pub within_values_is : (items : List Literal) → within_values s name (values_of (map value_of items)) ≡ flat_map (λ (x : Literal). within s name (value_of x)) items
  within_values_is [] = refl
  within_values_is (x ∷ items) = ap (λ r. within s name (value_of x) ++ r) (within_values_is items)

  pub within_fields_is : (fields : List ObjectField) → within_fields s name (fields_of (map given_field fields)) ≡ flat_map (λ (f : ObjectField). within s name (value_of f.value)) fields
  within_fields_is [] = refl
  within_fields_is (f ∷ fields) = ap (λ r. within s name (value_of f.value) ++ r) (within_fields_is fields)

  module _ (place : Place) where
    pub within_variable : (n : List ℕ) → within s name (value_of (l.Variable place n)) ≡ []
    within_variable n = ap (within s name) (value_variable place n)

    pub within_int : (text : List ℕ) → within s name (value_of (l.Int place text)) ≡ (if scalar_takes_int text s then [] else bad rule.V18 place name)
    within_int text = ap (within s name) (value_int place text)

    pub within_float : (text : List ℕ) → within s name (value_of (l.Float place text)) ≡ (if scalar_takes_float text s then [] else bad rule.V18 place name)
    within_float text = ap (within s name) (value_float place text)

    pub within_string : (text : List ℕ) → within s name (value_of (l.String place text)) ≡ []
    within_string text = ap (within s name) (value_string place text)

    pub within_boolean : (truth : Bool) → within s name (value_of (l.Boolean place truth)) ≡ []
    within_boolean truth = ap (within s name) (value_boolean place truth)

    pub within_null : within s name (value_of (l.Null place)) ≡ []
    within_null = ap (within s name) (value_null place)

    pub within_enum : (n : List ℕ) → within s name (value_of (l.Enum place n)) ≡ []
    within_enum n = ap (within s name) (value_enum place n)

    pub within_list : (items : List Literal) → within s name (value_of (l.List place items)) ≡ flat_map (λ (x : Literal). within s name (value_of x)) items
    within_list items = ap (within s name) (value_list place items) ∙ within_values_is items

    pub within_object : (fields : List ObjectField) → within s name (value_of (l.Object place fields)) ≡ flat_map (λ (f : ObjectField). within s name (value_of f.value)) fields
    within_object fields = ap (within s name) (value_object place fields) ∙ within_fields_is fields
