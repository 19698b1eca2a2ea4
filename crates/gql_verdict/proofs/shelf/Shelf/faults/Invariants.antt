use Rattle.std.proofs.Common.{◌≡◌, take, Contains}
use Rattle.std.specs.List.{flat_map}
use Rattle.gql_verdict.specs.declared.slot.Slot.{Slot}
use Rattle.gql_verdict.specs.Slots.{slot_faults, IsSlotCertified}
use Rattle.gql_verdict.proofs.shelf.Shelf.faults.Given as goal

abbrev pub invariant-loop-slot : goal.invariant-loop-slot
invariant-loop-slot l = record {
  so_far : l.found.items ≡ flat_map slot_faults (take l.slot-index l.slot-items);
  certified : (s : Slot) → Contains (take l.slot-index l.slot-items) s → IsSlotCertified s;
}
