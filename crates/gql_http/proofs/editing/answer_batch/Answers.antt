use Rattle.gql_registry.specs.State.{state_of}
use Rattle.serde_json.specs.View.{view}
use Rattle.gql_http.specs.Said.{answer_said}
use Rattle.gql_http.proofs.Answering.{of_value, on_ok, refused_batch}
use Rattle.gql_http.proofs.editing.answer_batch.Goals as goal

pub returns-in-Ok-clause-ok : goal.returns-in-Ok-clause-ok
returns-in-Ok-clause-ok c =
    let s = state_of c.args.registry.now in
    let t = state_of c.answer_value.new.registry in
    let is = c.in-Ok.ensures.ok in
    on_ok c.answer_value.result _ _ (λ h. (h.0, of_value s c.args.expected c.args.body.now (view c.in-Ok.value) h.0 t is.0 is.1 is.2 h.1, h.2)) c.answer_value.ensures.ok

pub returns-in_ok-batch_answer-in-Err-clause-ok : goal.returns-in_ok-batch_answer-in-Err-clause-ok
returns-in_ok-batch_answer-in-Err-clause-ok c =
    let answer = c.in_ok-batch_answer-in-Err in
    let a = answer_said answer.field-0 in
    let refused = refused_batch (state_of c.args.registry.now) c.args.expected c.args.body.now c.in-Err.fault a c.in-Err.ensures.err answer.ensures in
    on_ok c.write_answer.result _ _ (λ written. (a, refused, written)) c.write_answer.ensures.ok
