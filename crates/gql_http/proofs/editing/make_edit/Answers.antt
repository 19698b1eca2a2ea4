use Rattle.std.proofs.Common.{Err, Ok, refl}
use Rattle.gql_registry.specs.Changes.{edit_of}
use Rattle.gql_registry.specs.State.{state_of}
use Rattle.gql_http.specs.Answers.{said}
use Rattle.gql_http.specs.Json.{edited_text}
use Rattle.gql_http.specs.Said.{answer_said}
use Rattle.gql_http.proofs.Answering.{committed, on_ok}
use Rattle.gql_http.proofs.editing.make_edit.Goals as goal

pub returns-in-Ok-clause-ok : goal.returns-in-Ok-clause-ok
returns-in-Ok-clause-ok c =
    let edited = c.edited.result in
    let made = committed c.args.registry.now c.args.expected (edit_of c.args.edit.now) c.in-Ok.prepared (state_of c.commit_edit.new.self) edited c.in-Ok.ensures.prepared c.commit_edit.ensures.state c.edited.ensures in
    (Ok edited, said 200 (edited_text edited.revision edited.faults), refl, made, c.in_ok-write_edited-in-Ok.ensures.ok)

pub returns-clause-ok : goal.returns-clause-ok
returns-clause-ok c =
    let answer = c.in_ok-refused_answer-in-Err in
    on_ok c.write_answer.result _ _ (λ written. (Err c.in-Err.refused, answer_said answer.field-0, answer.ensures, (c.in-Err.ensures.err, refl), written)) c.write_answer.ensures.ok
