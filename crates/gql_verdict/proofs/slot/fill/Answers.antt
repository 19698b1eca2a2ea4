use Rattle.std.proofs.Common.{◌≡◌, ◌<◌, length, get_or, ap, sym, ◌∙◌, arith, List}
use Rattle.std.proofs.Math.ListN.{set}
use Rattle.std.proofs.lemmas.List.{get_or_default, get_or_past}
use Rattle.gql_verdict.specs.Slots.{resolve}
use Rattle.gql_verdict.specs.declared.slot.Slot.{Slot}
use Rattle.gql_verdict.specs.declared.slot.Slot.TheVariants.{At, Here}
use Rattle.gql_verdict.proofs.Filled.{at_turn, filled_more, still_there}
use Rattle.gql_verdict.proofs.slot.fill.Goals as goal
use Rattle.gql_verdict.proofs.slot.fill.Goals.{in-At+then-j-kept, in-At+else-j-kept, in_default}

pub loop-step-preserved : goal.loop-step-preserved
loop-step-preserved c =
    let S = c.args.steps.now in
    let K = c.args.kept.now in
    let i = c.loop-step.step-index in
    let l : i < length S = c.loop-step-test.true in
    -- what stands at this turn, by the list that came in
    let turn : (x : Slot) → get_or c.loop-step.steps i c.step-item.result ≡ x → get_or S i x ≡ x = λ x e. get_or_default S i x c.step-item.result l ∙ (sym (at_turn K S i l c.step-item.result) ∙ (ap (λ (ss : List Slot). get_or ss i c.step-item.result) (sym c.loop-step.invariant.so_far) ∙ e)) in
    elim c.match-step.branch [
      | in-At+then-j-kept w ↦
          let j = w.in-At.j in
          let at : get_or S i (At j) ≡ At j = turn (At j) w.in-At.is in
          let x = w.swap.new.x in
          let got : x ≡ get_or K j (At j) = w.swap.ensures.x_after ∙ (get_or_default c.loop-step.kept j _ (At j) w.if-j-kept.true ∙ c.loop-step.invariant.still i j (omega arith) l at) in
          record {
            so_far = w.steps-is ∙ filled_more K S i l _ x c.loop-step.invariant.so_far (got ∙ ap (resolve K) (sym at ∙ get_or_default S i (At j) x l));
            still = λ k m le lt e. ap (λ (ks : List Slot). get_or ks m (At m)) w.kept-is ∙ still_there K S c.loop-step.kept i j _ c.requires l at c.loop-step.invariant.still k m le lt e;
          }
      | in-At+else-j-kept w ↦
          let j = w.in-At.j in
          let at : get_or S i (At j) ≡ At j = turn (At j) w.in-At.is in
          let past : At j ≡ get_or K j (At j) = sym (get_or_past K j (At j) (omega (arith, w.if-j-kept.false, c.loop-step.auto.kept))) in
          record {
            so_far = w.steps-is ∙ filled_more K S i l _ (At j) c.loop-step.invariant.so_far (past ∙ ap (resolve K) (sym at));
            still = λ k m le lt e. ap (λ (ks : List Slot). get_or ks m (At m)) w.kept-is ∙ c.loop-step.invariant.still k m (omega arith) lt e;
          }
      | in_default w ↦
          let v = w.in_default.field-0 in
          let at : get_or S i (Here v) ≡ Here v = turn (Here v) w.in_default.is in
          record {
            so_far = w.steps-is ∙ (ap (λ (x : Slot). set c.loop-step.steps i x) w.in_default.is ∙ filled_more K S i l _ (Here v) c.loop-step.invariant.so_far (ap (resolve K) (sym at)));
            still = λ k m le lt e. ap (λ (ks : List Slot). get_or ks m (At m)) w.kept-is ∙ c.loop-step.invariant.still k m (omega arith) lt e;
          }
    ]
