-- Which objects each form of a value has: the equations of the definition.
use Rattle.std.specs.Prelude.{◌≡◌, ℕ, List, [], ◌∷◌, Bool, map, refl}
use Rattle.std.proofs.Common.{ap, sym, ◌∙◌}
use Rattle.gql_text.specs.declared.place.Place.{Place}
use Rattle.gql_ast.specs.declared.literal.Literal.{Literal, roll-Literal}
use Rattle.gql_ast.specs.declared.literal.Literal.TheFolds.{fold-roll-Literal, fold_out-ObjectField, map-Literal}
use Rattle.gql_ast.specs.declared.literal.Literal.TheOpen.{Literal-F}
use Rattle.gql_ast.specs.declared.literal.Literal.TheVariants as l
use Rattle.gql_ast.specs.declared.literal.ObjectField.{ObjectField, fold-ObjectField}
use Rattle.gql_iface_rules.specs.S19DefaultValueCycles.{NumberedObject, ObjectsAt, Within, Given, is_variable_value, is_variable, is_variable_at, within, within_at, object_values, given, given_in, list_at, object_at}
use Rattle.gql_iface_rules.proofs.S19Literals.{by_literal}
use Rattle.gql_inputs.specs.Values.{Value, variable, null, int, float, string, boolean, enum, list, object, values_of, fields_of, value_of, given_field}
use Rattle.gql_inputs.proofs.ValueForms.{value_variable, value_int, value_float, value_string, value_boolean, value_null, value_enum, value_list, value_object}
use Rattle.gql_types.specs.Written.{Written}

-- both say of a value whether it is a variable
module _ (all : List NumberedObject) where
  abbrev Same : Literal → Type 0
  Same x = (within all x).is_variable ≡ is_variable x

  formed : (y : Literal-F Literal ObjectField) (x : Literal) (v : Value) → x ≡ roll-Literal y → value_of x ≡ v
      → is_variable_at (map-Literal Literal ObjectField Within Given (within all) (fold-ObjectField Within Given (within_at all) given_in) y) ≡ is_variable_value v → Same x
  unfolding within
  formed y x v is value same = ap (λ z. (within all z).is_variable) is ∙ ap (λ (n : Within). n.is_variable) (fold-roll-Literal Within Given (within_at all) given_in y) ∙ same ∙ ap is_variable_value (sym value)

  pub same_variable : (x : Literal) → Same x
  same_variable = by_literal Same (record {
    object = λ place fields each. formed (Literal-F.Object place fields) (l.Object place fields) (object place (fields_of (map given_field fields))) (sym (l.rolls-Object place fields)) (value_object place fields) refl;
    list = λ place items each. formed (Literal-F.List place items) (l.List place items) (list place (values_of (map value_of items))) (sym (l.rolls-List place items)) (value_list place items) refl;
    variable = λ place name. formed (Literal-F.Variable place name) (l.Variable place name) (variable place name) (sym (l.rolls-Variable place name)) (value_variable place name) refl;
    int = λ place text. formed (Literal-F.Int place text) (l.Int place text) (int place text) (sym (l.rolls-Int place text)) (value_int place text) refl;
    float = λ place text. formed (Literal-F.Float place text) (l.Float place text) (float place text) (sym (l.rolls-Float place text)) (value_float place text) refl;
    string = λ place text. formed (Literal-F.String place text) (l.String place text) (string place) (sym (l.rolls-String place text)) (value_string place text) refl;
    boolean = λ place truth. formed (Literal-F.Boolean place truth) (l.Boolean place truth) (boolean place) (sym (l.rolls-Boolean place truth)) (value_boolean place truth) refl;
    null = λ place. formed (Literal-F.Null place) (l.Null place) (null place) (sym (l.rolls-Null place)) (value_null place) refl;
    enum = λ place name. formed (Literal-F.Enum place name) (l.Enum place name) (enum place name) (sym (l.rolls-Enum place name)) (value_enum place name) refl;
  })

module _ (all : List NumberedObject) (is_item : Bool) (t : Written) (place : Place) where
  pub object_values_variable : (name : List ℕ) → object_values all (l.Variable place name) is_item t ≡ []
  unfolding object_values within
  object_values_variable name = ap (λ (n : Within). n.objects is_item t) (ap (within all) (sym (l.rolls-Variable place name)) ∙ fold-roll-Literal Within Given (within_at all) given_in (Literal-F.Variable place name))

  pub object_values_int : (text : List ℕ) → object_values all (l.Int place text) is_item t ≡ []
  unfolding object_values within
  object_values_int text = ap (λ (n : Within). n.objects is_item t) (ap (within all) (sym (l.rolls-Int place text)) ∙ fold-roll-Literal Within Given (within_at all) given_in (Literal-F.Int place text))

  pub object_values_float : (text : List ℕ) → object_values all (l.Float place text) is_item t ≡ []
  unfolding object_values within
  object_values_float text = ap (λ (n : Within). n.objects is_item t) (ap (within all) (sym (l.rolls-Float place text)) ∙ fold-roll-Literal Within Given (within_at all) given_in (Literal-F.Float place text))

  pub object_values_string : (value : List ℕ) → object_values all (l.String place value) is_item t ≡ []
  unfolding object_values within
  object_values_string value = ap (λ (n : Within). n.objects is_item t) (ap (within all) (sym (l.rolls-String place value)) ∙ fold-roll-Literal Within Given (within_at all) given_in (Literal-F.String place value))

  pub object_values_boolean : (value : Bool) → object_values all (l.Boolean place value) is_item t ≡ []
  unfolding object_values within
  object_values_boolean value = ap (λ (n : Within). n.objects is_item t) (ap (within all) (sym (l.rolls-Boolean place value)) ∙ fold-roll-Literal Within Given (within_at all) given_in (Literal-F.Boolean place value))

  pub object_values_null : object_values all (l.Null place) is_item t ≡ []
  unfolding object_values within
  object_values_null = ap (λ (n : Within). n.objects is_item t) (ap (within all) (sym (l.rolls-Null place)) ∙ fold-roll-Literal Within Given (within_at all) given_in (Literal-F.Null place))

  pub object_values_enum : (name : List ℕ) → object_values all (l.Enum place name) is_item t ≡ []
  unfolding object_values within
  object_values_enum name = ap (λ (n : Within). n.objects is_item t) (ap (within all) (sym (l.rolls-Enum place name)) ∙ fold-roll-Literal Within Given (within_at all) given_in (Literal-F.Enum place name))

  items_in : (items : List Literal) → map (λ (w : Within). w.objects) (map (within all) items) ≡ map (object_values all) items
  unfolding object_values
  items_in [] = refl
  items_in (x ∷ items) = ap (λ (xs : List ObjectsAt). object_values all x ∷ xs) (items_in items)

  pub object_values_list : (items : List Literal) → object_values all (l.List place items) is_item t ≡ list_at (map (object_values all) items) t
  unfolding object_values within
  object_values_list items = ap (λ (n : Within). n.objects is_item t) (ap (within all) (sym (l.rolls-List place items)) ∙ fold-roll-Literal Within Given (within_at all) given_in (Literal-F.List place items))
      ∙ ap (λ xs. list_at xs t) (items_in items)

  fields_in : (fields : List ObjectField) → map (fold-ObjectField Within Given (within_at all) given_in) fields ≡ map (given all) fields
  unfolding object_values within
  fields_in [] = refl
  fields_in (f ∷ fields) = ap (λ x. x ∷ map (fold-ObjectField Within Given (within_at all) given_in) fields)
      (fold_out-ObjectField Within Given (within_at all) given_in f ∙ ap (λ b. record { name = f.name.text; is_variable = b; value = object_values all f.value }) (same_variable all f.value))
      ∙ ap (λ xs. given all f ∷ xs) (fields_in fields)

  pub object_values_object : (fields : List ObjectField) → object_values all (l.Object place fields) is_item t ≡ object_at all (map (given all) fields) is_item t
  unfolding object_values within
  object_values_object fields = ap (λ (n : Within). n.objects is_item t) (ap (within all) (sym (l.rolls-Object place fields)) ∙ fold-roll-Literal Within Given (within_at all) given_in (Literal-F.Object place fields))
      ∙ ap (λ xs. object_at all xs is_item t) (fields_in fields)
