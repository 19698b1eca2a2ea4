-- Terms for two laws that relate the literals that fit a type (GraphQL specification, 5.6) and
-- those that coercion refuses (3.5 to 3.12).
use Rattle.std.specs.Prelude.{◌≡◌, ◌||◌, ℕ, List, [], ◌∷◌, Bool, true, false, map, is_some, Some, Contains}
use Rattle.std.specs.List.{slice_get}
use Rattle.gql_text.specs.declared.place.Place.{Place}
use Rattle.gql_ast.specs.declared.literal.Literal.{Literal}
use Rattle.gql_ast.specs.declared.literal.Literal.TheVariants as literals
use Rattle.gql_ast.specs.declared.literal.ObjectField.{ObjectField}
use Rattle.gql_ast.specs.declared.rule.Rule.TheVariants as rule
use Rattle.gql_ast.specs.declared.type_system.InputValueDefinition.{InputValueDefinition}
use Rattle.gql_built_in.specs.declared.sited.Sited.{Sited}
use Rattle.gql_inputs.specs.BadValues.{fits}
use Rattle.gql_inputs.specs.InputTypes.{name_in}
use Rattle.gql_inputs.specs.Lookups.{in_schema, field_named, field_of}
use Rattle.gql_inputs.specs.Values.{Value, variable, null, int, float, string, boolean, enum, list, object, Values, no_values, value, Fields, no_fields, field, value_of, place_of, is_null}
use Rattle.gql_inputs.specs.declared.bad_value.BadValue.{BadValue}
use Rattle.gql_types.specs.Schemas.{type_named}
use Rattle.gql_types.specs.Written.{Written, written}
use Rattle.gql_types.specs.declared.schema.Schema.{Schema}
use Rattle.gql_types.specs.declared.schema_type.SchemaType.{SchemaType}
use Rattle.gql_coerce.specs.declared.refusal.Reason.{Reason}
use Rattle.gql_coerce.specs.declared.refusal.Reason.TheVariants as reason
use Rattle.gql_coerce.specs.declared.refusal.Segment.{Segment}
use Rattle.gql_coerce.specs.declared.refusal.Segment.TheVariants.{Index, Key}

-- whether a variable is in a value, in the items of a list, or in the fields of an object
abbrev mutual
  -- in a value
  pub has_variable : Value → Bool
  has_variable (variable p name) = true
  has_variable (null p) = false
  has_variable (int p text) = false
  has_variable (float p text) = false
  has_variable (string p) = false
  has_variable (boolean p) = false
  has_variable (enum p name) = false
  has_variable (list p xs) = is_in_values xs
  has_variable (object p fs) = is_in_fields fs

  -- in the items of a list
  pub is_in_values : Values → Bool
  is_in_values no_values = false
  is_in_values (value x xs) = has_variable x || is_in_values xs

  -- in the fields of an object
  pub is_in_fields : Fields → Bool
  is_in_fields no_fields = false
  is_in_fields (field n x fs) = has_variable x || is_in_fields fs

-- a literal without variables
abbrev pub IsConstant : Literal → Type 0
IsConstant x = has_variable (value_of x) ≡ false

-- the type that a type names is a known input type
abbrev pub IsKnown : Schema → Written → Type 0
IsKnown s t = is_some (in_schema s (name_in t)) ≡ true

-- What coercion needs of a field of an input object: its type is a known input type, no field of
-- the same name has another definition, and its default value fits and contains no variable.
pub record IsGoodField (s : Schema) (t : SchemaType) (d : Sited InputValueDefinition) : Type 0 where
  pub known : IsKnown s (written d.node.of_type)
  pub alone : field_named (map field_of t.input_fields) d.node.name.text ≡ Some (field_of d)
  pub constant : (x : Literal) → d.node.default ≡ Some x → IsConstant x
  pub default_fits : (x : Literal) → d.node.default ≡ Some x
      → fits s x (written d.node.of_type) ≡ true

-- every field of every input object is good, as in a schema without faults
abbrev pub HasGoodFields : Schema → Type 0
HasGoodFields s = (n : List ℕ) (t : SchemaType) → type_named s n ≡ Some t
    → (d : Sited InputValueDefinition) → Contains t.input_fields d → IsGoodField s t d

-- whether a refusal is about a value itself, not about an unknown or a missing field
abbrev pub is_of_value : Reason → Bool
is_of_value reason.NullForNonNull = true
is_of_value reason.WrongKind = true
is_of_value reason.OutOfRange = true
is_of_value reason.NotInEnum = true
is_of_value reason.UnknownField = false
is_of_value reason.MissingField = false

-- A bad value reports a refusal of a literal: it has the rule for the reason, and the place that
-- the path leads to.
pub data Reports : Literal → Reason → List Segment → BadValue → Type 0 where
  -- V18 at the value that is refused
  at_value : (x : Literal) {r : Reason} {about : List ℕ} → is_of_value r ≡ true
      → Reports x r [] (record { rule = rule.V18; place = place_of (value_of x); about = about })
  -- V19 at the field that is not known
  unknown : (p : Place) (fs : List ObjectField) (f : ObjectField) → Contains fs f
      → Reports (literals.Object p fs) reason.UnknownField (Key f.name.text ∷ [])
      (record { rule = rule.V19; place = f.name.place; about = f.name.text })
  -- V21 at the object that does not give a required field
  missing : (p : Place) (fs : List ObjectField) (n : List ℕ)
      → Reports (literals.Object p fs) reason.MissingField (Key n ∷ [])
      (record { rule = rule.V21; place = p; about = n })
  -- V21 at the object that gives null for a required field
  null_given : (p : Place) (fs : List ObjectField) (f : ObjectField) → Contains fs f
      → is_null (value_of f.value) ≡ true
      → Reports (literals.Object p fs) reason.NullForNonNull (Key f.name.text ∷ [])
      (record { rule = rule.V21; place = p; about = f.name.text })
  -- in an item of a list
  in_item : (p : Place) (xs : List Literal) (i : ℕ) (x : Literal) {r : Reason}
      {path : List Segment} {b : BadValue} → slice_get xs i ≡ Some x → Reports x r path b
      → Reports (literals.List p xs) r (Index i ∷ path) b
  -- in a field of an object
  in_field : (p : Place) (fs : List ObjectField) (f : ObjectField) {r : Reason}
      {path : List Segment} {b : BadValue} → Contains fs f → Reports f.value r path b
      → Reports (literals.Object p fs) r (Key f.name.text ∷ path) b
