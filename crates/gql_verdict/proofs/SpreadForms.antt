-- The names that are spread in each form of a selection: the equations of the definition.
use Rattle.std.specs.Prelude.{◌≡◌, List, [], ◌∷◌, ◌++◌, map, flat_map, refl}
use Rattle.std.proofs.Common.{ap, sym, ◌∙◌}
use Rattle.gql_ast.specs.declared.executable.Field.{Field}
use Rattle.gql_ast.specs.declared.executable.InlineFragment.{InlineFragment}
use Rattle.gql_ast.specs.declared.executable.Spread.{Spread}
use Rattle.gql_ast.specs.declared.executable.Selection.TheOpen.{Selection-F}
use Rattle.gql_ast.specs.declared.executable.Selection.TheFolds.{fold-roll-Selection, fold_out-Field, fold_out-InlineFragment}
use Rattle.gql_ast.specs.declared.executable.Selection.TheVariants as s
use Rattle.gql_verdict.specs.Spreads.{Names, all, spreads_at, below_field, within_inline, selection_spreads, set_spreads}

flat : {A : Type 0} (f : A → Names) (xs : List A) → all (map f xs) ≡ flat_map f xs
flat f [] = refl
flat f (x ∷ xs) = ap (λ r. f x ++ r) (flat f xs)

pub in_spread : (x : Spread) → selection_spreads (s.Spread x) ≡ x.name.text ∷ []
unfolding selection_spreads
in_spread x = ap selection_spreads (sym (s.rolls-Spread x))
    ∙ fold-roll-Selection Names Names Names spreads_at below_field within_inline (Selection-F.Spread x)

pub in_field : (f : Field) → selection_spreads (s.Field f) ≡ set_spreads f.selections
unfolding selection_spreads
in_field f = ap selection_spreads (sym (s.rolls-Field f))
    ∙ fold-roll-Selection Names Names Names spreads_at below_field within_inline (Selection-F.Field f)
    ∙ fold_out-Field Names Names Names spreads_at below_field within_inline f
    ∙ flat selection_spreads f.selections

pub in_inline : (i : InlineFragment) → selection_spreads (s.InlineFragment i) ≡ set_spreads i.selections
unfolding selection_spreads
in_inline i = ap selection_spreads (sym (s.rolls-InlineFragment i))
    ∙ fold-roll-Selection Names Names Names spreads_at below_field within_inline (Selection-F.InlineFragment i)
    ∙ fold_out-InlineFragment Names Names Names spreads_at below_field within_inline i
    ∙ flat selection_spreads i.selections
