-- What each form of a literal is as a value: the equations of the definition.
use Rattle.std.specs.Prelude.{◌≡◌, ℕ, List, [], ◌∷◌, Bool, map, refl}
use Rattle.std.proofs.Common.{ap, sym, ◌∙◌}
use Rattle.gql_text.specs.declared.place.Place.{Place}
use Rattle.gql_ast.specs.declared.literal.Literal.{Literal}
use Rattle.gql_ast.specs.declared.literal.ObjectField.{ObjectField, fold-ObjectField}
use Rattle.gql_ast.specs.declared.literal.Literal.TheOpen.{Literal-F}
use Rattle.gql_ast.specs.declared.literal.Literal.TheFolds.{fold-roll-Literal, fold_out-ObjectField}
use Rattle.gql_ast.specs.declared.literal.Literal.TheVariants as l
use Rattle.gql_inputs.specs.Values.{Value, variable, null, int, float, string, boolean, enum, list, object, GivenField, values_of, fields_of, all_fields, value_of, value_at, field_at, given_field}

module _ (place : Place) where
  pub value_variable : (name : List ℕ) → value_of (l.Variable place name) ≡ variable place name
  unfolding value_of
  value_variable name = ap value_of (sym (l.rolls-Variable place name)) ∙ fold-roll-Literal Value GivenField value_at field_at (Literal-F.Variable place name)

  pub value_int : (text : List ℕ) → value_of (l.Int place text) ≡ int place text
  unfolding value_of
  value_int text = ap value_of (sym (l.rolls-Int place text)) ∙ fold-roll-Literal Value GivenField value_at field_at (Literal-F.Int place text)

  pub value_float : (text : List ℕ) → value_of (l.Float place text) ≡ float place text
  unfolding value_of
  value_float text = ap value_of (sym (l.rolls-Float place text)) ∙ fold-roll-Literal Value GivenField value_at field_at (Literal-F.Float place text)

  pub value_string : (text : List ℕ) → value_of (l.String place text) ≡ string place
  unfolding value_of
  value_string text = ap value_of (sym (l.rolls-String place text)) ∙ fold-roll-Literal Value GivenField value_at field_at (Literal-F.String place text)

  pub value_boolean : (truth : Bool) → value_of (l.Boolean place truth) ≡ boolean place
  unfolding value_of
  value_boolean truth = ap value_of (sym (l.rolls-Boolean place truth)) ∙ fold-roll-Literal Value GivenField value_at field_at (Literal-F.Boolean place truth)

  pub value_null : value_of (l.Null place) ≡ null place
  unfolding value_of
  value_null = ap value_of (sym (l.rolls-Null place)) ∙ fold-roll-Literal Value GivenField value_at field_at (Literal-F.Null place)

  pub value_enum : (name : List ℕ) → value_of (l.Enum place name) ≡ enum place name
  unfolding value_of
  value_enum name = ap value_of (sym (l.rolls-Enum place name)) ∙ fold-roll-Literal Value GivenField value_at field_at (Literal-F.Enum place name)

  pub value_list : (items : List Literal) → value_of (l.List place items) ≡ list place (values_of (map value_of items))
  unfolding value_of
  value_list items = ap value_of (sym (l.rolls-List place items)) ∙ fold-roll-Literal Value GivenField value_at field_at (Literal-F.List place items)

  given_fields : (fields : List ObjectField) → map (fold-ObjectField Value GivenField value_at field_at) fields ≡ map given_field fields
  unfolding value_of
  given_fields [] = refl
  given_fields (f ∷ fields) = ap (λ x. x ∷ map (fold-ObjectField Value GivenField value_at field_at) fields) (fold_out-ObjectField Value GivenField value_at field_at f)
      ∙ ap (λ xs. given_field f ∷ xs) (given_fields fields)

  pub value_object : (fields : List ObjectField) → value_of (l.Object place fields) ≡ object place (fields_of (map given_field fields))
  unfolding value_of
  value_object fields = ap value_of (sym (l.rolls-Object place fields)) ∙ fold-roll-Literal Value GivenField value_at field_at (Literal-F.Object place fields)
      ∙ ap (λ xs. object place (fields_of xs)) (given_fields fields)

-- the fields of fields are those that they were made of
pub all_fields_of : (given : List GivenField) → all_fields (fields_of given) ≡ given
all_fields_of [] = refl
all_fields_of (g ∷ given) = ap (λ gs. g ∷ gs) (all_fields_of given)
