use Rattle.std.proofs.Common.{◌≡◌, ℕ, List}
use Rattle.std.specs.List.{AllByRecursion}
use Rattle.std.specs.Vec.Iter.{into_iter_items}
use Rattle.serde_json.specs.View.{view}
use Rattle.gql_stored.specs.Rooms.{IsEmptyRoom, IsCovered}
use Rattle.gql_stored.proofs.stored_data.with_rooms.Given as goal

abbrev pub invariant-loop-room : goal.invariant-loop-room
invariant-loop-room l = record {
  empty : AllByRecursion IsEmptyRoom (into_iter_items l.room-iterator);
  value : view l.stored ≡ view l.fn.stored;
  room : (to : List ℕ) (n : ℕ) → IsCovered l.fn.stored l.fn.rooms.items to n → IsCovered l.stored (into_iter_items l.room-iterator) to n;
}
