use Rattle.std.proofs.Common.{◌≡◌, ◌++◌, [], ap, sym, ◌∙◌, subst, flat_map, map, take, List, Contains, inl, inr}
use Rattle.std.proofs.lemmas.List.{take_all}
use Rattle.std.proofs.lemmas.List.Elements.{Contains-push_cases}
use Rattle.gql_verdict.specs.Plans.{Preparation}
use Rattle.gql_verdict.specs.Slots.{resolve, slot_faults, IsSlotCertified}
use Rattle.gql_verdict.specs.declared.slot.Slot.{Slot}
use Rattle.gql_verdict.specs.declared.slot.Slot.TheVariants.{Here}
use Rattle.gql_verdict.specs.Shelves.{Shelved}
use Rattle.gql_verdict.proofs.Adding.{mapped_step, next}
use Rattle.gql_verdict.proofs.Answered.{planned_faults}
use Rattle.gql_verdict.proofs.shelf.Shelf.prepared_faults.Goals as goal
use Rattle.gql_verdict.proofs.shelf.Shelf.prepared_faults.Goals.{After-loop-step}

pub loop-step-preserved : goal.loop-step-preserved
loop-step-preserved c =
    let K = c.as_slice-kept.result.now in
    let S = c.as_slice-step-items.result.now in
    let i = c.loop-step.step-index in
    let x = c.step-item.result in
    record {
      so_far = mapped_step slot_faults (resolve K) S i x c.loop-step-test.true (sym c.step-item.is) [] _ _ c.loop-step.invariant.so_far
          (c.in_ok-add_slot.ensures.found ∙ ap (λ s. c.loop-step.found.items ++ slot_faults s) c.resolved.ensures);
      certified = λ s m. elim (Contains-push_cases (map (resolve K) (take i S)) (resolve K x) s (subst (λ l. Contains l s) (next slot_faults (resolve K) S i x c.loop-step-test.true (sym c.step-item.is)) m)) [
        | inl t ↦ c.loop-step.invariant.certified s t
        | inr e ↦ subst (λ (z : Slot). IsSlotCertified z) (c.resolved.ensures ∙ e) c.add_slot.ensures.certificate
      ];
    }

all_seen : (c : After-loop-step) → take c.loop-step.step-index c.as_slice-step-items.result.now ≡ c.args.prepared.now.steps
all_seen c = take_all _ _ c.loop-step-test.false ∙ (c.as_slice-step-items.ensures.value ∙ ap (λ (p : Preparation). p.steps) c.prepared.view_is)

pub returns : goal.returns
returns c = λ F ds planned.
    let K = c.as_slice-kept.result.now in
    planned_faults F ds c.args.self.now.verdicts c.args.prepared.now planned K
    (c.as_slice-kept.ensures.value ∙ (c.self.invariant.order.all_here ∙ ap (λ (s : Shelved). map Here s.verdicts) c.self.view_is))
    c.loop-step.found.items
    (c.loop-step.invariant.so_far ∙ ap (λ (ss : List Slot). flat_map slot_faults (map (resolve K) ss)) (all_seen c))
    (subst (λ (ss : List Slot). (s : Slot) → Contains (map (resolve K) ss) s → IsSlotCertified s) (all_seen c) c.loop-step.invariant.certified)
