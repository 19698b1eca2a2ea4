use Rattle.std.proofs.Common.{◌∙◌, Some, ap, sym}
use Rattle.gql_registry.specs.Changes.{edit_of}
use Rattle.gql_registry.specs.State.{state_of}
use Rattle.gql_ast.specs.declared.profile.Profile.{Profile}
use Rattle.serde_json.specs.View.{view}
use Rattle.gql_http.specs.Batches.{edit_in}
use Rattle.gql_http.specs.Editing.{value_makes}
use Rattle.gql_http.specs.Said.{answer_said}
use Rattle.gql_http.proofs.Answering.{on_ok, refused_value}
use Rattle.gql_http.proofs.editing.answer_value.Goals as goal

pub returns-in-Ok-clause-ok : goal.returns-in-Ok-clause-ok
returns-in-Ok-clause-ok c =
    let d = view c.args.value.now in
    let limit = ap (λ (p : Profile). edit_in p.limits.name d) (sym c.profile-most.ensures) in
    let says = limit ∙ c.in-Ok.ensures.ok ∙ ap (λ cs. Some (edit_of cs)) (sym c.as_slice.ensures.value) in
    on_ok c.make_edit.result _ _ (λ h. (h.1, value_makes (edit_of c.as_slice.result.now) h.0 says h.2 h.3, h.4)) c.make_edit.ensures.ok

pub returns-in_ok-batch_answer-in-Err-clause-ok : goal.returns-in_ok-batch_answer-in-Err-clause-ok
returns-in_ok-batch_answer-in-Err-clause-ok c =
    let d = view c.args.value.now in
    let limit = ap (λ (p : Profile). edit_in p.limits.name d) (sym c.profile-most.ensures) in
    let answer = c.in_ok-batch_answer-in-Err in
    let a = answer_said answer.field-0 in
    let refused = refused_value (state_of c.args.registry.now) c.args.expected d c.in-Err.fault a (λ bad. limit ∙ c.in-Err.ensures.err bad) answer.ensures in
    on_ok c.write_answer.result _ _ (λ written. (a, refused, written)) c.write_answer.ensures.ok
