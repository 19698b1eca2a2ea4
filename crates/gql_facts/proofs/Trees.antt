-- Induction over selections.
use Rattle.std.specs.Prelude.{List, [], ◌∷◌, map}
use Rattle.std.proofs.Common.{sym, subst}
use Rattle.gql_ast.specs.declared.executable.Selection.{Selection, roll-Selection}
use Rattle.gql_ast.specs.declared.executable.Field.{Field}
use Rattle.gql_ast.specs.declared.executable.InlineFragment.{InlineFragment}
use Rattle.gql_ast.specs.declared.executable.Spread.{Spread}
use Rattle.gql_ast.specs.declared.executable.Selection.TheOpen.{Selection-F}
use Rattle.gql_ast.specs.declared.executable.Selection.TheFolds.{ind-Selection, map-Selection}
use Rattle.gql_ast.specs.declared.executable.Selection.TheVariants as s

-- P holds of each member
abbrev pub Each : {A : Type 0} → (A → Type 0) → List A → Type 0
Each P [] = Unit {0}
Each P (x ∷ xs) = P x × Each P xs

abbrev pub Such : {A : Type 0} → (A → Type 0) → Type 0
Such {A} P = (x : A) × P x

gathered : {A : Type 0} (P : A → Type 0) (ys : List (Such P)) → Each P (map (λ e. e.0) ys)
gathered P [] = tt
gathered P (y ∷ ys) = (y.1, gathered P ys)

module _ (P : Selection → Type 0) (field : (f : Field) → Each P f.selections → P (s.Field f)) (spread : (x : Spread) → P (s.Spread x)) (inline : (i : InlineFragment) → Each P i.selections → P (s.InlineFragment i)) where
  abbrev Below : Field → Type 0
  Below f = Each P f.selections

  abbrev Within : InlineFragment → Type 0
  Within i = Each P i.selections

  at_selection : (y : Selection-F (Such P) (Such Below) (Such Within)) → P (roll-Selection (map-Selection (Such P) (Such Below) (Such Within) Selection Field InlineFragment (λ e. e.0) (λ e. e.0) (λ e. e.0) y))
  at_selection (Selection-F.Field e) = subst P (sym (s.rolls-Field e.0)) (field e.0 e.1)
  at_selection (Selection-F.Spread x) = subst P (sym (s.rolls-Spread x)) (spread x)
  at_selection (Selection-F.InlineFragment e) = subst P (sym (s.rolls-InlineFragment e.0)) (inline e.0 e.1)

  -- what holds of a selection where it holds of those that it selects holds of all
  pub by_tree : (x : Selection) → P x
  by_tree = ind-Selection P Below Within
      (λ x y same. subst (λ z. P (roll-Selection z)) same (at_selection y))
      (λ x y same. subst (λ z. Each P z.selections) same (gathered P y.selections))
      (λ x y same. subst (λ z. Each P z.selections) same (gathered P y.selections))

  pub by_set : (xs : List Selection) → Each P xs
  by_set [] = tt
  by_set (x ∷ xs) = (by_tree x, by_set xs)
