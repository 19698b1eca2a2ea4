-- Applied directives, their arguments, and strings in these (GraphQL 2.9.4 and 2.12).
use Rattle.std.specs.Prelude.{◌≡◌, ℕ, List, find, bytes_eq, codes, Bool, Option, Some, None, option_and_then}
use Rattle.std.proofs.Common.{ap, sym, ◌∙◌}
use Rattle.gql_text.specs.declared.place.Place.{Place}
use Rattle.gql_ast.specs.declared.literal.Argument.{Argument}
use Rattle.gql_ast.specs.declared.literal.Directive.{Directive}
use Rattle.gql_ast.specs.declared.literal.Literal.{Literal, fold-Literal}
use Rattle.gql_ast.specs.declared.literal.Literal.TheOpen.{Literal-F, ObjectField-F}
use Rattle.gql_ast.specs.declared.literal.Literal.TheFolds.{fold-roll-Literal}
use Rattle.gql_ast.specs.declared.literal.Literal.TheVariants as l
use Rattle.gql_ast.specs.declared.literal.ObjectField.{ObjectField}

-- ---- strings

-- the value of a literal of this form, if it is a string
abbrev pub string_at : Literal-F (Option (List ℕ)) (Option (List ℕ)) → Option (List ℕ)
string_at (Literal-F.String place value) = Some value
string_at _ = None

-- the string of an object field, from that of its value
abbrev pub string_in : ObjectField-F (Option (List ℕ)) (Option (List ℕ)) → Option (List ℕ)
string_in f = f.value

-- the value of a literal, if it is a string or a block string
unfoldable pub string_of : Literal → Option (List ℕ)
string_of = fold-Literal (Option (List ℕ)) (Option (List ℕ)) string_at string_in

-- ---- directives

-- the first directive of this name
abbrev pub directive_of : List ℕ → List Directive → Option Directive
directive_of name directives = find (λ (d : Directive). bytes_eq name d.name.text) directives

-- the first argument of this name
abbrev pub argument_of : List ℕ → Directive → Option Argument
argument_of name directive = find (λ (a : Argument). bytes_eq name a.name.text) directive.arguments

-- ---- `@append(to: String!)`

-- the name of the list to which a directive appends
abbrev pub to_of : Directive → Option (List ℕ)
to_of directive =
    option_and_then (λ (a : Argument). string_of a.value) (argument_of (codes "to") directive)

-- the name of the list to which a field with these directives appends, if `@append` is on it
abbrev pub append_in : List Directive → Option (List ℕ)
append_in directives = option_and_then to_of (directive_of (codes "append") directives)

-- ---- the string of each form of a literal

module _ (place : Place) where
  pub string_is : (value : List ℕ) → string_of (l.String place value) ≡ Some value
  unfolding string_of
  string_is value = ap string_of (sym (l.rolls-String place value))
      ∙ fold-roll-Literal (Option (List ℕ)) (Option (List ℕ)) string_at string_in
      (Literal-F.String place value)

  pub null_is_none : string_of (l.Null place) ≡ None
  unfolding string_of
  null_is_none = ap string_of (sym (l.rolls-Null place))
      ∙ fold-roll-Literal (Option (List ℕ)) (Option (List ℕ)) string_at string_in
      (Literal-F.Null place)

  pub variable_is_none : (name : List ℕ) → string_of (l.Variable place name) ≡ None
  unfolding string_of
  variable_is_none name = ap string_of (sym (l.rolls-Variable place name))
      ∙ fold-roll-Literal (Option (List ℕ)) (Option (List ℕ)) string_at string_in
      (Literal-F.Variable place name)

  pub int_is_none : (text : List ℕ) → string_of (l.Int place text) ≡ None
  unfolding string_of
  int_is_none text = ap string_of (sym (l.rolls-Int place text))
      ∙ fold-roll-Literal (Option (List ℕ)) (Option (List ℕ)) string_at string_in
      (Literal-F.Int place text)

  pub float_is_none : (text : List ℕ) → string_of (l.Float place text) ≡ None
  unfolding string_of
  float_is_none text = ap string_of (sym (l.rolls-Float place text))
      ∙ fold-roll-Literal (Option (List ℕ)) (Option (List ℕ)) string_at string_in
      (Literal-F.Float place text)

  pub boolean_is_none : (value : Bool) → string_of (l.Boolean place value) ≡ None
  unfolding string_of
  boolean_is_none value = ap string_of (sym (l.rolls-Boolean place value))
      ∙ fold-roll-Literal (Option (List ℕ)) (Option (List ℕ)) string_at string_in
      (Literal-F.Boolean place value)

  pub enum_is_none : (name : List ℕ) → string_of (l.Enum place name) ≡ None
  unfolding string_of
  enum_is_none name = ap string_of (sym (l.rolls-Enum place name))
      ∙ fold-roll-Literal (Option (List ℕ)) (Option (List ℕ)) string_at string_in
      (Literal-F.Enum place name)

  pub list_is_none : (items : List Literal) → string_of (l.List place items) ≡ None
  unfolding string_of
  list_is_none items = ap string_of (sym (l.rolls-List place items))
      ∙ fold-roll-Literal (Option (List ℕ)) (Option (List ℕ)) string_at string_in _

  pub object_is_none : (fields : List ObjectField) → string_of (l.Object place fields) ≡ None
  unfolding string_of
  object_is_none fields = ap string_of (sym (l.rolls-Object place fields))
      ∙ fold-roll-Literal (Option (List ℕ)) (Option (List ℕ)) string_at string_in _
