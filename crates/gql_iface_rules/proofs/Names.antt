-- Whether a name is among these, with one more at their end.
use Rattle.std.proofs.Common.{◌≡◌, ◌+◌, ◌<◌, ◌||◌, ℕ, List, [], ◌∷◌, Bool, length, get_or, take, bytes_eq, arith}
use Rattle.std.proofs.lemmas.Grind.{common_steps}
use Rattle.std.proofs.lemmas.List.{take_more}
use Rattle.std.proofs.lemmas.List.Folds.{list_any-append}
use Rattle.gql_ast.specs.declared.text.Name.{Name}
use Rattle.gql_built_in.specs.declared.sited.Sited.{Sited}
use Rattle.gql_types.specs.Covariance.{is_among}

pub among_step : (q : List ℕ) (names : List (Sited Name)) (i : ℕ) (x : Sited Name) (old new : Bool) → i < length names → get_or names i x ≡ x
    → old ≡ is_among q (take i names)
    → new ≡ (old || bytes_eq q x.node.text)
    → new ≡ is_among q (take (i + 1) names)
among_step q names i x old new within item before after =
    rw (take_more names i x within, item, list_any-append (λ (n : Sited Name). bytes_eq q n.node.text) (take i names) (x ∷ [])) grind (arith, common_steps, before, after)
