-- The first definitions of a list with one more at its end.
use Rattle.std.proofs.Common.{◌≡◌, ◌++◌, ℕ, List, [], ◌∷◌, Bool, ◌||◌, ◌+◌, ◌<◌, length, get_or, take, bytes_eq, refl, ◌∙◌, cond, arith}
use Rattle.std.proofs.lemmas.List.{take_more}
use Rattle.std.proofs.lemmas.Slice.Eq.{bytes_eq-Decides}
use Rattle.std.proofs.lemmas.Grind.{common_steps}
use Rattle.std.specs.List.{list_any}
use Rattle.std.proofs.lemmas.List.Folds.{list_any-append}
use Rattle.gql_ast.specs.declared.type_system.DirectiveDefinition.{DirectiveDefinition}
use Rattle.gql_faults.specs.Directives.{first_directives}
use Rattle.gql_built_in.specs.declared.sited.Sited.{Sited}

abbrev pub seen_in : Sited DirectiveDefinition → List (Sited DirectiveDefinition) → Bool
seen_in x ds = list_any (λ (d : Sited DirectiveDefinition). bytes_eq x.node.name.text d.node.name.text) ds

pub first_more : (ds : List (Sited DirectiveDefinition)) (x : Sited DirectiveDefinition) → first_directives (ds ++ x ∷ []) ≡ first_directives ds ++ cond (seen_in x ds) [] (x ∷ [])
first_more [] x = refl
first_more (d ∷ ds) x = grind (arith, common_steps, bytes_eq-Decides d.node.name.text x.node.name.text, bytes_eq-Decides x.node.name.text d.node.name.text, first_more ds x)

-- one more definition was checked
pub seen_step : (q : List ℕ) (ds : List (Sited DirectiveDefinition)) (i : ℕ) (x : Sited DirectiveDefinition) (old new : Bool) → i < length ds → get_or ds i x ≡ x
    → old ≡ list_any (λ (d : Sited DirectiveDefinition). bytes_eq q d.node.name.text) (take i ds)
    → new ≡ (old || bytes_eq q x.node.name.text)
    → new ≡ list_any (λ (d : Sited DirectiveDefinition). bytes_eq q d.node.name.text) (take (i + 1) ds)
seen_step q ds i x old new within item before after =
    rw (take_more ds i x within, item, list_any-append (λ (d : Sited DirectiveDefinition). bytes_eq q d.node.name.text) (take i ds) (x ∷ [])) grind (arith, common_steps, before, after)

pub first_step : (ds : List (Sited DirectiveDefinition)) (i : ℕ) (x : Sited DirectiveDefinition) (seen : Bool) (old new : List (Sited DirectiveDefinition)) → i < length ds → get_or ds i x ≡ x
    → seen ≡ seen_in x (take i ds)
    → old ≡ first_directives (take i ds)
    → new ≡ old ++ cond seen [] (x ∷ [])
    → new ≡ first_directives (take (i + 1) ds)
first_step ds i x seen old new within item were before after =
    rw (take_more ds i x within, item, first_more (take i ds) x) (after ∙ (λ k. before k ++ cond (were k) [] (x ∷ [])))
