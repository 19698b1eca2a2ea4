use Rattle.std.proofs.Common.{◌≡◌, ◌++◌, [], ap, sym, ◌∙◌, subst, List, take, Contains, inl, inr}
use Rattle.std.specs.List.{flat_map}
use Rattle.std.proofs.lemmas.List.{flat_map_more, take_all}
use Rattle.gql_verdict.specs.Verdicts.{Judgement, IsCertificate}
use Rattle.gql_verdict.specs.Slots.{slot_faults, IsSlotCertified}
use Rattle.gql_verdict.specs.declared.slot.Slot.{Slot}
use Rattle.gql_verdict.specs.Shelves.{Shelved}
use Rattle.gql_verdict.proofs.Seen.{take_next, seen_more}
use Rattle.gql_verdict.proofs.Answered.{slots_faults, slots_certified, all_faults}
use Rattle.gql_verdict.proofs.shelf.Shelf.faults.Goals as goal
use Rattle.gql_verdict.proofs.shelf.Shelf.faults.Goals.{After-loop-slot}

pub loop-slot-preserved : goal.loop-slot-preserved
loop-slot-preserved c =
    let S = c.as_slice-slot-items.result.now in
    let i = c.loop-slot.slot-index in
    let x = c.slot-item.result in
    record {
      so_far = c.in_ok-add_slot.ensures.found
          ∙ (ap (λ fs. fs ++ slot_faults x) c.loop-slot.invariant.so_far
          ∙ (flat_map_more slot_faults [] (take i S) x
          ∙ ap (flat_map slot_faults) (sym (take_next S i x c.loop-slot-test.true c.slot-item.is))));
      certified = λ s m. elim (seen_more S i x c.loop-slot-test.true c.slot-item.is s m) [
        | inl t ↦ c.loop-slot.invariant.certified s t
        | inr e ↦ subst (λ (z : Slot). IsSlotCertified z) e c.add_slot.ensures.certificate
      ];
    }

all_seen : (c : After-loop-slot) → take c.loop-slot.slot-index c.as_slice-slot-items.result.now ≡ c.self.inside.slots.items
all_seen c = take_all _ _ c.loop-slot-test.false ∙ c.as_slice-slot-items.ensures.value

pub returns-clause-value : goal.returns-clause-value
returns-clause-value c =
    c.loop-slot.invariant.so_far
    ∙ (ap (flat_map slot_faults) (all_seen c)
    ∙ (slots_faults c.self.inside.slots.items ∙ ap (flat_map (λ (v : Judgement). v.faults)) (ap (λ (s : Shelved). s.verdicts) c.self.view_is)))

pub returns-clause-current : goal.returns-clause-current
returns-clause-current c =
    all_faults c.args.self.now.verdicts c.loop-slot.found.items (returns-clause-value c)
    (subst (λ (vs : List Judgement). (v : Judgement) → Contains vs v → IsCertificate v.def v.faults v.observations) (ap (λ (s : Shelved). s.verdicts) c.self.view_is)
    (slots_certified c.self.inside.slots.items (subst (λ (ss : List Slot). (s : Slot) → Contains ss s → IsSlotCertified s) (all_seen c) c.loop-slot.invariant.certified)))
