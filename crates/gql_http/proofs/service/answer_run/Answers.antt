use Rattle.std.proofs.Common.{[], Result, Ok, Err, refl, subst}
use Rattle.std.specs.Prelude.{OnOk}
use Rattle.gql_http.specs.ReadBodies.{name_of}
use Rattle.gql_registry.specs.Calls.{Answers, effects_in}
use Rattle.gql_registry.specs.State.{State, state_of}
use Rattle.gql_http.specs.Said.{answer_said}
use Rattle.gql_http.specs.Service.{calls}
use Rattle.gql_http.proofs.Refused.{refused_body}
use Rattle.serde_json.specs.View.{view}
use Rattle.gql_http.proofs.service.answer_run.Goals as goal

on_ok : {A E : Type 0} (result : Result A E) (P Q : Type 0) → (P → Q) → OnOk result P → OnOk result Q
on_ok (Ok a) P Q f h = f h
on_ok (Err e) P Q f h = tt

pub returns-in-Ok-clause-ok : goal.returns-in-Ok-clause-ok
returns-in-Ok-clause-ok c =
    let s : State = state_of c.args.registry.now in
    on_ok c.answer_call.result _ _ (λ h.
    let answers = subst (λ n. Answers s.files s.stored n (view c.variables-variables.result.now) h.0) c.name-name.ensures h.2 in
    let moved = subst (λ v. Answers s.files s.stored (name_of c.in-Ok.call) v h.0) c.variables-variables.ensures answers in
    (h.1, (effects_in h.0, calls c.in-Ok.ensures.ok moved h.3, h.4), h.5)) c.answer_call.ensures.ok

pub returns-in_ok-body_answer-in-Err-clause-ok : goal.returns-in_ok-body_answer-in-Err-clause-ok
returns-in_ok-body_answer-in-Err-clause-ok c =
    let s : State = state_of c.args.registry.now in
    let a = answer_said c.in_ok-body_answer-in-Err.field-0 in
    on_ok c.write_answer.result _ _
    (λ written. (a, ([], refused_body s c.args.body.now c.in-Err.fault a c.in-Err.ensures.err c.in_ok-body_answer-in-Err.ensures, refl), written)) c.write_answer.ensures.ok
