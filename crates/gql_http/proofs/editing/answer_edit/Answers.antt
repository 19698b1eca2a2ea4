use Rattle.std.proofs.Common.{◌∙◌, Some, ap}
use Rattle.gql_registry.specs.Changes.{edit_of}
use Rattle.gql_registry.specs.State.{state_of}
use Rattle.gql_http.specs.Called.{kind_said}
use Rattle.gql_http.proofs.Answering.{on_ok, single_answer}
use Rattle.gql_http.proofs.editing.answer_edit.Goals as goal

pub returns-in-Some-clause-ok : goal.returns-in-Some-clause-ok
returns-in-Some-clause-ok c =
    let s = state_of c.args.registry.now in
    let t = state_of c.make_edit.new.registry in
    let e = edit_of c.from_ref-edit.result.now in
    let is = ap (λ cs. Some (edit_of cs)) c.from_ref-edit.ensures.value ∙ c.in-Some.ensures in
    on_ok c.make_edit.result _ _ (λ h. (h.1, single_answer s c.args.expected (kind_said c.args.kind) c.args.body.now e h.0 h.1 t is h.2 h.3, h.4)) c.make_edit.ensures.ok
