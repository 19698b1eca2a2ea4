-- The uses in each form of a selection: the equations of the definition.
use Rattle.std.specs.Prelude.{◌≡◌, ℕ, List, [], ◌∷◌, ◌++◌, map, flat_map, refl}
use Rattle.std.proofs.Common.{ap, sym, ◌∙◌}
use Rattle.gql_ast.specs.declared.executable.Field.{Field}
use Rattle.gql_ast.specs.declared.executable.InlineFragment.{InlineFragment}
use Rattle.gql_ast.specs.declared.executable.Spread.{Spread}
use Rattle.gql_ast.specs.declared.executable.Selection.TheOpen.{Selection-F}
use Rattle.gql_ast.specs.declared.executable.Selection.TheFolds.{fold-roll-Selection, fold_out-Field, fold_out-InlineFragment}
use Rattle.gql_ast.specs.declared.executable.Selection.TheVariants as s
use Rattle.gql_vars.specs.Uses.{Use, all, argument_uses, directive_uses, selection_uses, set_uses, selected_at, field_at, inline_at}

flat : {A : Type 0} (f : A → List Use) (xs : List A) → all (map f xs) ≡ flat_map f xs
flat f [] = refl
flat f (x ∷ xs) = ap (λ r. f x ++ r) (flat f xs)

module _ (file : List ℕ) where
  pub in_spread : (x : Spread) → selection_uses file (s.Spread x) ≡ directive_uses file x.directives
  unfolding selection_uses
  in_spread x = ap (selection_uses file) (sym (s.rolls-Spread x))
      ∙ fold-roll-Selection (List Use) (List Use) (List Use) (selected_at file) (field_at file) (inline_at file) (Selection-F.Spread x)

  pub in_field : (f : Field) → selection_uses file (s.Field f)
      ≡ argument_uses file f.arguments ++ (directive_uses file f.directives ++ set_uses file f.selections)
  unfolding selection_uses
  in_field f = ap (selection_uses file) (sym (s.rolls-Field f))
      ∙ fold-roll-Selection (List Use) (List Use) (List Use) (selected_at file) (field_at file) (inline_at file) (Selection-F.Field f)
      ∙ fold_out-Field (List Use) (List Use) (List Use) (selected_at file) (field_at file) (inline_at file) f
      ∙ ap (λ r. argument_uses file f.arguments ++ (directive_uses file f.directives ++ r)) (flat (selection_uses file) f.selections)

  pub in_inline : (i : InlineFragment) → selection_uses file (s.InlineFragment i)
      ≡ directive_uses file i.directives ++ set_uses file i.selections
  unfolding selection_uses
  in_inline i = ap (selection_uses file) (sym (s.rolls-InlineFragment i))
      ∙ fold-roll-Selection (List Use) (List Use) (List Use) (selected_at file) (field_at file) (inline_at file) (Selection-F.InlineFragment i)
      ∙ fold_out-InlineFragment (List Use) (List Use) (List Use) (selected_at file) (field_at file) (inline_at file) i
      ∙ ap (λ r. directive_uses file i.directives ++ r) (flat (selection_uses file) i.selections)

-- parts that are added one after the other
append_assoc : {A : Type 0} (a b c : List A) → (a ++ b) ++ c ≡ a ++ (b ++ c)
append_assoc [] b c = refl
append_assoc (x ∷ a) b c = ap (λ l. x ∷ l) (append_assoc a b c)

pub two : (old mid new x y : List Use) → mid ≡ old ++ x → new ≡ mid ++ y → new ≡ old ++ (x ++ y)
two old mid new x y first second = second ∙ ap (λ l. l ++ y) first ∙ append_assoc old x y

pub three : (old mid end new x y z : List Use) → mid ≡ old ++ x → end ≡ mid ++ y → new ≡ end ++ z → new ≡ old ++ (x ++ (y ++ z))
three old mid end new x y z first second third = two old mid new x (y ++ z) first (two mid end new y z second third)
