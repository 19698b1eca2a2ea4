-- The uses in each form of a literal: the equations of the definition.
use Rattle.std.specs.Prelude.{◌≡◌, ℕ, List, [], ◌∷◌, ◌++◌, Bool, map, flat_map, refl}
use Rattle.std.proofs.Common.{ap, sym, ◌∙◌, append-nil}
use Rattle.gql_text.specs.declared.place.Place.{Place}
use Rattle.gql_ast.specs.declared.literal.Literal.{Literal}
use Rattle.gql_ast.specs.declared.literal.ObjectField.{ObjectField, fold-ObjectField}
use Rattle.gql_ast.specs.declared.literal.Literal.TheOpen.{Literal-F}
use Rattle.gql_ast.specs.declared.literal.Literal.TheFolds.{fold-roll-Literal, fold_out-ObjectField}
use Rattle.gql_ast.specs.declared.literal.Literal.TheVariants as l
use Rattle.gql_vars.specs.declared.uses.VariableUse.{VariableUse}
use Rattle.gql_vars.specs.Lists.{use_of}
use Rattle.gql_vars.specs.Uses.{Use, all, literal_uses, uses_at, uses_of_value}

module _ (file : List ℕ) (place : Place) where
  pub in_variable : (name : List ℕ)
      → literal_uses file (l.Variable place name) ≡ record { file = file; place = place; name = name } ∷ []
  unfolding literal_uses
  in_variable name = ap (literal_uses file) (sym (l.rolls-Variable place name)) ∙ fold-roll-Literal (List Use) (List Use) (uses_at file) uses_of_value (Literal-F.Variable place name)

  pub in_int : (text : List ℕ) → literal_uses file (l.Int place text) ≡ []
  unfolding literal_uses
  in_int text = ap (literal_uses file) (sym (l.rolls-Int place text)) ∙ fold-roll-Literal (List Use) (List Use) (uses_at file) uses_of_value (Literal-F.Int place text)

  pub in_float : (text : List ℕ) → literal_uses file (l.Float place text) ≡ []
  unfolding literal_uses
  in_float text = ap (literal_uses file) (sym (l.rolls-Float place text)) ∙ fold-roll-Literal (List Use) (List Use) (uses_at file) uses_of_value (Literal-F.Float place text)

  pub in_string : (text : List ℕ) → literal_uses file (l.String place text) ≡ []
  unfolding literal_uses
  in_string text = ap (literal_uses file) (sym (l.rolls-String place text)) ∙ fold-roll-Literal (List Use) (List Use) (uses_at file) uses_of_value (Literal-F.String place text)

  pub in_boolean : (truth : Bool) → literal_uses file (l.Boolean place truth) ≡ []
  unfolding literal_uses
  in_boolean truth = ap (literal_uses file) (sym (l.rolls-Boolean place truth)) ∙ fold-roll-Literal (List Use) (List Use) (uses_at file) uses_of_value (Literal-F.Boolean place truth)

  pub in_null : literal_uses file (l.Null place) ≡ []
  unfolding literal_uses
  in_null = ap (literal_uses file) (sym (l.rolls-Null place)) ∙ fold-roll-Literal (List Use) (List Use) (uses_at file) uses_of_value (Literal-F.Null place)

  pub in_enum : (name : List ℕ) → literal_uses file (l.Enum place name) ≡ []
  unfolding literal_uses
  in_enum name = ap (literal_uses file) (sym (l.rolls-Enum place name)) ∙ fold-roll-Literal (List Use) (List Use) (uses_at file) uses_of_value (Literal-F.Enum place name)

  flat : {A : Type 0} (f : A → List Use) (xs : List A) → all (map f xs) ≡ flat_map f xs
  flat f [] = refl
  flat f (x ∷ xs) = ap (λ r. f x ++ r) (flat f xs)

  pub in_list : (items : List Literal) → literal_uses file (l.List place items) ≡ flat_map (literal_uses file) items
  unfolding literal_uses
  in_list items = ap (literal_uses file) (sym (l.rolls-List place items)) ∙ fold-roll-Literal (List Use) (List Use) (uses_at file) uses_of_value (Literal-F.List place items)
      ∙ flat (literal_uses file) items

  given : (fields : List ObjectField) → all (map (fold-ObjectField (List Use) (List Use) (uses_at file) uses_of_value) fields)
      ≡ flat_map (λ (f : ObjectField). literal_uses file f.value) fields
  unfolding literal_uses
  given [] = refl
  given (f ∷ fields) = ap (λ u. u ++ all (map (fold-ObjectField (List Use) (List Use) (uses_at file) uses_of_value) fields)) (fold_out-ObjectField (List Use) (List Use) (uses_at file) uses_of_value f)
      ∙ ap (λ us. literal_uses file f.value ++ us) (given fields)

  pub in_object : (fields : List ObjectField)
      → literal_uses file (l.Object place fields) ≡ flat_map (λ (f : ObjectField). literal_uses file f.value) fields
  unfolding literal_uses
  in_object fields = ap (literal_uses file) (sym (l.rolls-Object place fields)) ∙ fold-roll-Literal (List Use) (List Use) (uses_at file) uses_of_value (Literal-F.Object place fields)
      ∙ given fields

-- a literal without uses
pub no_uses : (old : List Use) (file : List ℕ) (x : Literal) → literal_uses file x ≡ [] → old ≡ old ++ literal_uses file x
no_uses old file x is = rw is (sym (append-nil old))

-- one use more
pub used_one : (old new : List VariableUse) (x : VariableUse) → new ≡ old ++ x ∷ [] → map use_of new ≡ map use_of old ++ use_of x ∷ []
used_one old new x is = ap (map use_of) is ∙ map_append use_of old (x ∷ []) where
  map_append : {A B : Type 0} (f : A → B) (xs ys : List A) → map f (xs ++ ys) ≡ map f xs ++ map f ys
  map_append f [] ys = refl
  map_append f (y ∷ xs) ys = ap (λ l. f y ∷ l) (map_append f xs ys)
