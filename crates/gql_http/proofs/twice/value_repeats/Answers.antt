use Rattle.std.proofs.Common.{◌∙◌, sym, ap}
use Rattle.std.proofs.lemmas.Result.{IfOk-weaker}
use Rattle.json.specs.Strict.{keys}
use Rattle.json.specs.Value.{members_view, value_view}
use Rattle.json.proofs.Trees.{view-Object}
use Rattle.gql_http.specs.Batches.{repeats, value_repeats}
use Rattle.gql_http.proofs.twice.value_repeats.Goals as goal

pub returns-in-Object : goal.returns-in-Object
returns-in-Object c =
    let seen = ap value_view c.in-Object.is ∙ view-Object c.in-Object.members in
    IfOk-weaker c.repeats.result _ _ (λ b is. is ∙ ap (λ ms. repeats (keys (members_view ms))) c.as_slice.ensures.value ∙ sym (ap value_repeats seen)) c.repeats.ensures
