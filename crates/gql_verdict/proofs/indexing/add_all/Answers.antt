use Rattle.std.proofs.Common.{◌≡◌, ◌∙◌, List, Bool, ap, length, subst, sym, take}
use Rattle.std.proofs.lemmas.List.{take_all}
use Rattle.std.proofs.Math.Seq.{take-length}
use Rattle.gql_readers.specs.Changes.{AreNotesBetween}
use Rattle.gql_readers.specs.Readers.{Reader}
use Rattle.gql_verdict.specs.Marks.{gone}
use Rattle.gql_verdict.specs.Readings.{readers}
use Rattle.gql_verdict.specs.Slots.{verdicts}
use Rattle.gql_verdict.specs.declared.slot.Slot.{Slot}
use Rattle.gql_verdict.proofs.LedTo.{step_new, steps_more}
use Rattle.gql_verdict.proofs.indexing.add_all.Goals as goal

pub loop-step-preserved : goal.loop-step-preserved
loop-step-preserved c =
    let ss = c.args.steps.now in
    let i = c.loop-step.step-index in
    let s = c.step-item.result in
    record {
      within = c.in_ok-to.ensures.within;
      noted = λ gone_up new_up are.
          subst (λ (rs : List Reader). AreNotesBetween c.add_step.new.changes (readers (gone (take c.in_ok-to.to c.args.kept.now) (take c.in_ok-to.to c.args.stay.now))) rs) (steps_more ss i s c.loop-step-test.true c.step-item.is)
          (c.in_ok-to.ensures.notes (readers (verdicts (take i ss))) gone_up (step_new ss i s c.loop-step-test.true c.step-item.is new_up) (c.loop-step.invariant.noted gone_up new_up are));
    }

pub returns : goal.returns
returns c = λ gone_up new_up are.
    let kept = c.args.kept.now in
    let stay = c.args.stay.now in
    let n = length kept in
    let notes = c.add_gone_to.new.changes in
    let all_kept : take n kept ≡ kept = take-length kept in
    let all_stay : take n stay ≡ stay = ap (λ m. take m stay) (sym c.requires.long) ∙ take-length stay in
    let all_steps : take c.loop-step.step-index c.args.steps.now ≡ c.args.steps.now = take_all _ _ c.loop-step-test.false in
    let begun = subst (λ (ss : List Slot). AreNotesBetween c.loop-step.changes (readers (gone (take c.loop-step.at kept) (take c.loop-step.at stay))) (readers (verdicts ss))) all_steps (c.loop-step.invariant.noted gone_up new_up are) in
    subst (λ (ks : List Slot). AreNotesBetween notes (readers (gone ks stay)) (readers (verdicts c.args.steps.now))) all_kept
    (subst (λ (bs : List Bool). AreNotesBetween notes (readers (gone (take n kept) bs)) (readers (verdicts c.args.steps.now))) all_stay
    (c.in_ok-add_gone_to.ensures (readers (verdicts c.args.steps.now)) gone_up begun))
