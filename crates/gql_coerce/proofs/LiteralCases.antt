-- Cases on the form of a literal.
use Rattle.std.proofs.Common.{ℕ, List, Bool, map, sym, subst}
use Rattle.gql_text.specs.declared.place.Place.{Place}
use Rattle.gql_ast.specs.declared.literal.Literal.{Literal, roll-Literal}
use Rattle.gql_ast.specs.declared.literal.Literal.TheFolds.{ind-Literal, map-Literal}
use Rattle.gql_ast.specs.declared.literal.Literal.TheOpen.{Literal-F}
use Rattle.gql_ast.specs.declared.literal.Literal.TheVariants as l
use Rattle.gql_ast.specs.declared.literal.ObjectField.{ObjectField}

abbrev Such : {A : Type 0} → (A → Type 0) → Type 0
Such {A} P = (x : A) × P x

-- what holds of each form
pub record Holds (P : Literal → Type 0) : Type 0 where
  pub object : (place : Place) (fields : List ObjectField) → P (l.Object place fields)
  pub list : (place : Place) (items : List Literal) → P (l.List place items)
  pub variable : (place : Place) (name : List ℕ) → P (l.Variable place name)
  pub int : (place : Place) (text : List ℕ) → P (l.Int place text)
  pub float : (place : Place) (text : List ℕ) → P (l.Float place text)
  pub string : (place : Place) (value : List ℕ) → P (l.String place value)
  pub boolean : (place : Place) (value : Bool) → P (l.Boolean place value)
  pub null : (place : Place) → P (l.Null place)
  pub enum : (place : Place) (name : List ℕ) → P (l.Enum place name)

module _ (P : Literal → Type 0) (h : Holds P) where
  abbrev Q : ObjectField → Type 0
  Q f = P f.value

  at_literal : (y : Literal-F (Such P) (Such Q)) → P (roll-Literal (map-Literal (Such P) (Such Q) Literal ObjectField (λ e. e.0) (λ e. e.0) y))
  at_literal (Literal-F.Object place fields) = subst P (sym (l.rolls-Object place (map (λ e. e.0) fields))) (h.object place (map (λ e. e.0) fields))
  at_literal (Literal-F.List place items) = subst P (sym (l.rolls-List place (map (λ e. e.0) items))) (h.list place (map (λ e. e.0) items))
  at_literal (Literal-F.Variable place name) = subst P (sym (l.rolls-Variable place name)) (h.variable place name)
  at_literal (Literal-F.Int place text) = subst P (sym (l.rolls-Int place text)) (h.int place text)
  at_literal (Literal-F.Float place text) = subst P (sym (l.rolls-Float place text)) (h.float place text)
  at_literal (Literal-F.String place value) = subst P (sym (l.rolls-String place value)) (h.string place value)
  at_literal (Literal-F.Boolean place value) = subst P (sym (l.rolls-Boolean place value)) (h.boolean place value)
  at_literal (Literal-F.Null place) = subst P (sym (l.rolls-Null place)) (h.null place)
  at_literal (Literal-F.Enum place name) = subst P (sym (l.rolls-Enum place name)) (h.enum place name)

  -- so of every literal
  pub by_form : (x : Literal) → P x
  by_form = ind-Literal P Q
      (λ x y same. subst (λ z. P (roll-Literal z)) same (at_literal y))
      (λ x y same. subst (λ z. P z.value) same y.value.1)
