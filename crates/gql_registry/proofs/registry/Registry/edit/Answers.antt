use Rattle.std.proofs.Common.{refl, ap, subst, sym}
use Rattle.gql_registry.specs.Changes.{edit_of}
use Rattle.gql_registry.specs.Keeping.{IsWholeWorkOn}
use Rattle.gql_registry.specs.State.{State, shelf_of, state_of}
use Rattle.gql_registry.proofs.Answered.{made_answer, refused_answer, refused_work}
use Rattle.gql_registry.proofs.Working.{on_err_of}
use Rattle.gql_registry.proofs.registry.Registry.edit.Goals as goal

pub commit_edit-requires : goal.commit_edit-requires
commit_edit-requires c = c.in_ok-prepared.ensures.prepared.ready

pub returns-in_err-prepared-clause-makes : goal.returns-in_err-prepared-clause-makes
returns-in_err-prepared-clause-makes c =
    refused_answer (state_of c.args.self.now) c.args.expected (edit_of c.args.edit.now) _ c.in_err-prepared.field-0.0 c.from_residual.ensures.1 c.in_err-prepared.ensures.err

pub returns-in_err-prepared-clause-shelf : goal.returns-in_err-prepared-clause-shelf
returns-in_err-prepared-clause-shelf c = on_err_of _ refl

pub returns-in_err-prepared-clause-pairs : goal.returns-in_err-prepared-clause-pairs
returns-in_err-prepared-clause-pairs c = λ n m k is holds. is

pub returns-in_err-prepared-clause-works : goal.returns-in_err-prepared-clause-works
returns-in_err-prepared-clause-works c =
    refused_work (state_of c.args.self.now) (state_of c.args.self.now) c.args.expected (shelf_of c.args.self.now) (edit_of c.args.edit.now) _ c.in_err-prepared.field-0.0 c.args.meter.now c.prepare_edit.new.meter c.from_residual.ensures.1 c.in_err-prepared.ensures.in_vain

pub returns-in_err-prepared-clause-idle : goal.returns-in_err-prepared-clause-idle
returns-in_err-prepared-clause-idle c = λ none. (refl, refl, c.in_err-prepared.ensures.idle none)

pub returns-clause-makes : goal.returns-clause-makes
returns-clause-makes c =
    made_answer (state_of c.args.self.now) _ _ c.args.expected (edit_of c.args.edit.now) c.commit_edit.result _ c.commit_edit.ensures.state c.commit_edit.ensures.edited c.in_ok-prepared.ensures.prepared.accepts c.in_ok-prepared.ensures.prepared.reports

pub returns-clause-pairs : goal.returns-clause-pairs
returns-clause-pairs c = c.commit_edit.ensures.pairs

pub returns-clause-walked : goal.returns-clause-walked
returns-clause-walked c = c.commit_edit.ensures.walked

pub returns-clause-works : goal.returns-clause-works
returns-clause-works c =
    subst (λ f. IsWholeWorkOn f (shelf_of c.args.self.now) c.args.meter.now c.prepare_edit.new.meter) (sym (ap (λ (t : State). t.files) c.commit_edit.ensures.state)) c.in_ok-prepared.ensures.works

pub returns-clause-idle : goal.returns-clause-idle
returns-clause-idle c = λ none.
    let kept = c.commit_edit.ensures.idle (c.in_ok-prepared.ensures.prepared.files none) in
    (kept.0, kept.1, c.in_ok-prepared.ensures.idle none)
