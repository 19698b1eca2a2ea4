use Rattle.std.proofs.Common.{Some}
use Rattle.std.specs.Vec.Iter.{into_iter_items}
use Rattle.std.proofs.lemmas.List.Elements.{All-rest}
use Rattle.gql_types.specs.Batches.{HasValue, values_of}
use Rattle.gql_types.proofs.Filling.{filled_next}
use Rattle.gql_types.proofs.batched.with_batch.Goals as goal

pub loop-slot-preserved : goal.loop-slot-preserved
loop-slot-preserved g c =
    let made = values_of c.args.batch.now in
    let slots = into_iter_items c.loop-slot.slot-iterator in
    let rest = into_iter_items c.next.new.self in
    record {
      list = filled_next made c.loop-slot.list.items c.push.new.self.items c.in-Some.slot slots rest
          c.args.slots.items (Some c.in_ok-value.field-0) c.loop-slot.invariant.list
          c.in-Some.ensures.steps.0 c.in_ok-value.ensures c.in_ok-push.ensures.items;
      rest = All-rest (HasValue made) c.in-Some.slot rest slots c.in-Some.ensures.steps.0
          c.loop-slot.invariant.rest;
    }
