use Rattle.std.proofs.Common.{◌≡◌, flat_map, map, take, Contains}
use Rattle.gql_verdict.specs.Slots.{resolve, slot_faults, IsSlotCertified}
use Rattle.gql_verdict.specs.declared.slot.Slot.{Slot}
use Rattle.gql_verdict.proofs.shelf.Shelf.prepared_faults.Given as goal

abbrev pub invariant-loop-step : goal.invariant-loop-step
invariant-loop-step l = record {
  so_far : l.found.items ≡ flat_map slot_faults (map (resolve l.kept) (take l.step-index l.step-items));
  certified : (s : Slot) → Contains (map (resolve l.kept) (take l.step-index l.step-items)) s → IsSlotCertified s;
}
