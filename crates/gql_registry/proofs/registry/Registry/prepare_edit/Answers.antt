use Rattle.std.proofs.Common.{◌≡◌, ap, subst, sym}
use Rattle.gql_registry.specs.Changes.{edit_of}
use Rattle.gql_registry.specs.Edits.{IsRefused}
use Rattle.gql_registry.specs.Keeping.{IsWholeWorkOn}
use Rattle.gql_registry.specs.State.{State, shelf_of, state_of}
use Rattle.gql_registry.specs.Works.{WorksInVain}
use Rattle.gql_registry.specs.declared.change.EditRefusal.{EditRefusal}
use Rattle.gql_registry.specs.declared.refusal.Refusal.TheVariants as refusal
use Rattle.gql_registry.proofs.Answered.{idle, memory_edit, refused_edit, stopped_edit}
use Rattle.gql_registry.proofs.InTurn.{refused_at}
use Rattle.gql_registry.proofs.Plans.{planned_in_vain, prepared_edit}
use Rattle.gql_registry.proofs.Working.{err_of, err_where}
use Rattle.gql_registry.proofs.registry.Registry.prepare_edit.Goals as goal

pub returns-in_err-revision-clause-err : goal.returns-in_err-revision-clause-err
returns-in_err-revision-clause-err c =
    let s = state_of c.args.self.now in
    err_where (λ (x : EditRefusal). x ≡ refused_at 0 c.in_err-revision.field-0.0) (IsRefused s c.args.expected (edit_of c.args.edit.now)) _ c.from_residual.ensures.1
    (λ x is. stopped_edit s c.args.expected (edit_of c.args.edit.now) c.in_err-revision.field-0.0 x is c.in_err-revision.ensures.err)

pub returns-in_err-revision-clause-in_vain : goal.returns-in_err-revision-clause-in_vain
returns-in_err-revision-clause-in_vain c =
    let s = state_of c.args.self.now in
    err_where (λ (x : EditRefusal). x ≡ refused_at 0 c.in_err-revision.field-0.0) (λ (r : EditRefusal). WorksInVain s c.args.expected (shelf_of c.args.self.now) (edit_of c.args.edit.now) r.refusal c.args.meter.now c.args.meter.now) _ c.from_residual.ensures.1
    (λ x is. idle s c.args.expected (shelf_of c.args.self.now) (edit_of c.args.edit.now) x.refusal c.args.meter.now)

pub returns-in_err-planned-clause-err : goal.returns-in_err-planned-clause-err
returns-in_err-planned-clause-err c =
    let s = state_of c.args.self.now in
    err_of (IsRefused s c.args.expected (edit_of c.args.edit.now)) _ _ c.from_residual-in_err-planned.ensures.1
    (refused_edit s c.args.expected (edit_of c.args.edit.now) c.in_err-planned.field-0.0 c.in_ok-revision.ensures.time c.in_err-planned.ensures.err)

pub returns-in_err-planned-clause-in_vain : goal.returns-in_err-planned-clause-in_vain
returns-in_err-planned-clause-in_vain c =
    let s = state_of c.args.self.now in
    err_of (λ (r : EditRefusal). WorksInVain s c.args.expected (shelf_of c.args.self.now) (edit_of c.args.edit.now) r.refusal c.args.meter.now c.args.meter.now) _ _ c.from_residual-in_err-planned.ensures.1
    (idle s c.args.expected (shelf_of c.args.self.now) (edit_of c.args.edit.now) _ c.args.meter.now)

pub prepare_planned-requires-clause-revision : goal.prepare_planned-requires-clause-revision
prepare_planned-requires-clause-revision c = c.in_ok-revision.ensures.next

pub prepare_planned-requires-clause-plan : goal.prepare_planned-requires-clause-plan
prepare_planned-requires-clause-plan c = c.in_ok-planned.ensures.planned.plan

pub returns-in_err-prepare_planned-clause-err : goal.returns-in_err-prepare_planned-clause-err
returns-in_err-prepare_planned-clause-err c =
    let s = state_of c.args.self.now in
    err_where (λ (x : EditRefusal). x.refusal ≡ refusal.Memory) (IsRefused s c.args.expected (edit_of c.args.edit.now)) _ c.from_residual-in_err-prepare_planned.ensures.1
    (λ x is. memory_edit s c.args.expected (edit_of c.args.edit.now) x is)

pub returns-in_err-prepare_planned-clause-in_vain : goal.returns-in_err-prepare_planned-clause-in_vain
returns-in_err-prepare_planned-clause-in_vain c =
    let s = state_of c.args.self.now in
    err_where (λ (x : EditRefusal). x.refusal ≡ refusal.Memory)
    (λ (r : EditRefusal). WorksInVain s c.args.expected (shelf_of c.args.self.now) (edit_of c.args.edit.now) r.refusal c.args.meter.now c.prepare_planned.new.meter) _ c.from_residual-in_err-prepare_planned.ensures.1
    (λ x is. planned_in_vain s c.args.expected (shelf_of c.args.self.now) (edit_of c.args.edit.now) c.in_ok-planned.planned x.refusal c.args.meter.now c.prepare_planned.new.meter is
    c.in_ok-revision.ensures.time c.in_ok-planned.ensures.planned c.in_err-prepare_planned.ensures.work)

pub returns-clause-prepared : goal.returns-clause-prepared
returns-clause-prepared c =
    prepared_edit c.args.self.now c.args.expected (edit_of c.args.edit.now) c.in_ok-planned.planned c.in_ok-prepare_planned.field-0 c.in_ok-revision.revision
    c.in_ok-revision.ensures.next c.in_ok-revision.ensures.time c.in_ok-planned.ensures.planned
    c.in_ok-prepare_planned.ensures.after c.in_ok-prepare_planned.ensures.reports c.in_ok-prepare_planned.ensures.ready c.in_ok-prepare_planned.ensures.files

pub returns-clause-works : goal.returns-clause-works
returns-clause-works c =
    subst (λ f. IsWholeWorkOn f (shelf_of c.args.self.now) c.args.meter.now c.prepare_planned.new.meter) (sym (ap (λ (t : State). t.files) c.in_ok-prepare_planned.ensures.after)) c.in_ok-prepare_planned.ensures.whole

pub returns-in_err-prepare_planned-clause-idle : goal.returns-in_err-prepare_planned-clause-idle
returns-in_err-prepare_planned-clause-idle c = λ none. c.in_err-prepare_planned.ensures.idle (c.in_ok-planned.ensures.planned.files none)

pub returns-clause-idle : goal.returns-clause-idle
returns-clause-idle c = λ none. c.in_ok-prepare_planned.ensures.idle (c.in_ok-planned.ensures.planned.files none)
