use Rattle.std.proofs.Common.{ap, sym, ◌∙◌, rules}
use Rattle.std.specs.Prelude.{◌==◌}
use Rattle.serde_json.specs.View.{view}
use Rattle.gql_coerce.specs.Nesting.{has_part}
use Rattle.gql_coerce.proofs.Nesting.{array_part, object_part}
use Rattle.gql_coerce.proofs.taking_apart.has_part.Goals as goal

pub returns-in-Array : goal.returns-in-Array
returns-in-Array c = array_part c.in-Array.items c.is_empty.result (c.is_empty.ensures ∙ ap (λ n. n == 0) (search rules)) ∙ ap (λ v. has_part (view v)) (sym c.in-Array.is)

pub returns-in-Object : goal.returns-in-Object
returns-in-Object c = object_part c.in-Object.members c.is_empty-in-Object.result c.is_empty-in-Object.ensures ∙ ap (λ v. has_part (view v)) (sym c.in-Object.is)
