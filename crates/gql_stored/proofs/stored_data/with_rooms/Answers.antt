use Rattle.std.proofs.Common.{◌∙◌, subst}
use Rattle.std.specs.List.{AllByRecursion}
use Rattle.std.specs.Vec.Iter.{into_iter_items}
use Rattle.gql_stored.specs.Rooms.{IsEmptyRoom}
use Rattle.gql_stored.proofs.Covering.{any_ready, room_turn}
use Rattle.gql_stored.proofs.Stepping.{moved_as_data}
use Rattle.gql_stored.proofs.stored_data.with_rooms.Goals as goal

pub data_with-stored-requires : goal.data_with-stored-requires
data_with-stored-requires c = any_ready c.in-Some.room.buffer c.as_str.result.now c.loop-room.stored
    (subst (λ rs. AllByRecursion IsEmptyRoom rs) c.in-Some.ensures.steps.0 c.loop-room.invariant.empty).0

pub loop-room-preserved : goal.loop-room-preserved
loop-room-preserved c = record {
  empty = (subst (λ rs. AllByRecursion IsEmptyRoom rs) c.in-Some.ensures.steps.0 c.loop-room.invariant.empty).1;
  value = moved_as_data c.as_str.result.now c.in-Some.room.buffer c.loop-room.stored c.data_with-stored.result c.data_with-stored.ensures ∙ c.loop-room.invariant.value;
  room = λ to n covered. room_turn (into_iter_items c.loop-room.room-iterator) (into_iter_items c.next.new.self) c.in-Some.room c.as_str.result.now to n c.loop-room.stored c.data_with-stored.result
      c.in-Some.ensures.steps.0 c.as_str.ensures.value c.data_with-stored.ensures (c.loop-room.invariant.room to n covered);
}
