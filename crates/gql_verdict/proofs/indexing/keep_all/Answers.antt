use Rattle.std.proofs.Common.{◌∙◌, [], ◌∷◌, ◌++◌, subst, sym, take, List, length, ℕ, refl}
use Rattle.std.proofs.lemmas.List.{take_all}
use Rattle.gql_verdict.specs.Marks.{AreKept}
use Rattle.gql_verdict.specs.declared.slot.Slot.{Slot}
use Rattle.gql_verdict.proofs.Seen.{take_next}
use Rattle.gql_verdict.proofs.indexing.keep_all.Goals as goal

pub loop-step-init : goal.loop-step-init
loop-step-init c = record { long = refl; kept = λ k. k }

pub loop-step-preserved : goal.loop-step-preserved
loop-step-preserved c =
    let ss = c.args.steps.now in
    let i = c.loop-step.step-index in
    let s = c.step-item.result in
    record {
      long = c.keep.ensures.long ∙ c.loop-step.invariant.long;
      kept = λ k. subst (λ (zs : List Slot). AreKept zs (length c.args.marks.now) c.keep.new.marks) (sym (take_next c.args.steps.now c.loop-step.step-index c.step-item.result c.loop-step-test.true c.step-item.is))
          (subst (λ (n : ℕ). AreKept (take i ss ++ s ∷ []) n c.keep.new.marks) c.loop-step.invariant.long (c.keep.ensures.kept (take i ss) (subst (λ (n : ℕ). AreKept (take i ss) n c.loop-step.marks) (sym c.loop-step.invariant.long) (c.loop-step.invariant.kept k))));
    }

pub returns : goal.returns
returns c = λ k. subst (λ (ss : List Slot). AreKept ss (length c.args.marks.now) c.loop-step.marks) (take_all _ _ c.loop-step-test.false) (c.loop-step.invariant.kept k)
