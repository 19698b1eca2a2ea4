-- The first definitions of a list with one more at its end.
use Rattle.std.proofs.Common.{◌≡◌, ◌++◌, ℕ, List, [], ◌∷◌, Bool, ◌||◌, ◌+◌, ◌<◌, length, get_or, map, take, bytes_eq, refl, ◌∙◌, cond, arith}
use Rattle.std.proofs.lemmas.List.{map-append, take_more}
use Rattle.std.proofs.lemmas.Slice.Eq.{bytes_eq-Decides}
use Rattle.std.proofs.lemmas.Grind.{common_steps}
use Rattle.std.specs.List.{list_any}
use Rattle.std.proofs.lemmas.List.Folds.{list_any-append}
use Rattle.gql_ast.specs.declared.type_system.TypeDefinition.{TypeDefinition}
use Rattle.gql_types.specs.Types.{first_definitions}
use Rattle.gql_built_in.specs.declared.sited.Sited.{Sited}

abbrev pub seen_in : Sited TypeDefinition → List (Sited TypeDefinition) → Bool
seen_in x ds = list_any (λ (d : Sited TypeDefinition). bytes_eq x.node.name.text d.node.name.text) ds

pub first_more : (ds : List (Sited TypeDefinition)) (x : Sited TypeDefinition) → first_definitions (ds ++ x ∷ []) ≡ first_definitions ds ++ cond (seen_in x ds) [] (x ∷ [])
first_more [] x = refl
first_more (d ∷ ds) x = grind (arith, common_steps, bytes_eq-Decides d.node.name.text x.node.name.text, bytes_eq-Decides x.node.name.text d.node.name.text, first_more ds x)

module _ {X : Type 0} (f : X → Sited TypeDefinition) where
  -- a definition more was looked at
  pub seen_step : (q : List ℕ) (xs : List X) (i : ℕ) (x : X) (old new : Bool) → i < length xs → get_or xs i x ≡ x
      → old ≡ list_any (λ (d : Sited TypeDefinition). bytes_eq q d.node.name.text) (map f (take i xs))
      → new ≡ (old || bytes_eq q (f x).node.name.text)
      → new ≡ list_any (λ (d : Sited TypeDefinition). bytes_eq q d.node.name.text) (map f (take (i + 1) xs))
  seen_step q xs i x old new within item before after =
      rw (take_more xs i x within, item, map-append f (take i xs) (x ∷ []), list_any-append (λ (d : Sited TypeDefinition). bytes_eq q d.node.name.text) (map f (take i xs)) (f x ∷ [])) grind (arith, common_steps, before, after)

  pub first_step : (xs : List X) (i : ℕ) (x : X) (seen : Bool) (old new : List (Sited TypeDefinition)) → i < length xs → get_or xs i x ≡ x
      → seen ≡ seen_in (f x) (map f (take i xs))
      → old ≡ first_definitions (map f (take i xs))
      → new ≡ old ++ cond seen [] (f x ∷ [])
      → new ≡ first_definitions (map f (take (i + 1) xs))
  first_step xs i x seen old new within item were before after =
      rw (take_more xs i x within, item, map-append f (take i xs) (x ∷ []), first_more (map f (take i xs)) (f x)) (after ∙ (λ k. before k ++ cond (were k) [] (f x ∷ [])))
