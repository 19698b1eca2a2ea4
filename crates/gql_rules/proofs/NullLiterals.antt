-- Which literals are `null`.
use Rattle.std.specs.Prelude.{◌≡◌, ℕ, List, Bool, true, false}
use Rattle.std.proofs.Common.{ap, sym, ◌∙◌}
use Rattle.gql_text.specs.declared.place.Place.{Place}
use Rattle.gql_ast.specs.declared.literal.Literal.{Literal}
use Rattle.gql_ast.specs.declared.literal.ObjectField.{ObjectField}
use Rattle.gql_ast.specs.declared.literal.Literal.TheFolds.{fold-roll-Literal}
use Rattle.gql_ast.specs.declared.literal.Literal.TheOpen.{Literal-F}
use Rattle.gql_ast.specs.declared.literal.Literal.TheVariants as l
use Rattle.gql_rules.specs.Literals.{is_null, is_null_at, value_of}

module _ (place : Place) where
  pub null_is : is_null (l.Null place) ≡ true
  unfolding is_null
  null_is = ap is_null (sym (l.rolls-Null place)) ∙ fold-roll-Literal Bool Bool is_null_at value_of (Literal-F.Null place)

  pub variable_is_not : (name : List ℕ) → is_null (l.Variable place name) ≡ false
  unfolding is_null
  variable_is_not name = ap is_null (sym (l.rolls-Variable place name)) ∙ fold-roll-Literal Bool Bool is_null_at value_of (Literal-F.Variable place name)

  pub int_is_not : (text : List ℕ) → is_null (l.Int place text) ≡ false
  unfolding is_null
  int_is_not text = ap is_null (sym (l.rolls-Int place text)) ∙ fold-roll-Literal Bool Bool is_null_at value_of (Literal-F.Int place text)

  pub float_is_not : (text : List ℕ) → is_null (l.Float place text) ≡ false
  unfolding is_null
  float_is_not text = ap is_null (sym (l.rolls-Float place text)) ∙ fold-roll-Literal Bool Bool is_null_at value_of (Literal-F.Float place text)

  pub string_is_not : (value : List ℕ) → is_null (l.String place value) ≡ false
  unfolding is_null
  string_is_not value = ap is_null (sym (l.rolls-String place value)) ∙ fold-roll-Literal Bool Bool is_null_at value_of (Literal-F.String place value)

  pub boolean_is_not : (value : Bool) → is_null (l.Boolean place value) ≡ false
  unfolding is_null
  boolean_is_not value = ap is_null (sym (l.rolls-Boolean place value)) ∙ fold-roll-Literal Bool Bool is_null_at value_of (Literal-F.Boolean place value)

  pub enum_is_not : (name : List ℕ) → is_null (l.Enum place name) ≡ false
  unfolding is_null
  enum_is_not name = ap is_null (sym (l.rolls-Enum place name)) ∙ fold-roll-Literal Bool Bool is_null_at value_of (Literal-F.Enum place name)

  pub list_is_not : (items : List Literal) → is_null (l.List place items) ≡ false
  unfolding is_null
  list_is_not items = ap is_null (sym (l.rolls-List place items)) ∙ fold-roll-Literal Bool Bool is_null_at value_of _

  pub object_is_not : (fields : List ObjectField) → is_null (l.Object place fields) ≡ false
  unfolding is_null
  object_is_not fields = ap is_null (sym (l.rolls-Object place fields)) ∙ fold-roll-Literal Bool Bool is_null_at value_of _
