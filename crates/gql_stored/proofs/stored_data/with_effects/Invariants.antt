use Rattle.std.proofs.Common.{◌≡◌, map}
use Rattle.std.specs.Vec.Iter.{into_iter_items}
use Rattle.serde_json.specs.View.{view}
use Rattle.gql_stored.specs.Effects.{after}
use Rattle.gql_stored.specs.Rooms.{effect_of}
use Rattle.gql_stored.proofs.Covering.{RoomForAll}
use Rattle.gql_stored.proofs.stored_data.with_effects.Given as goal

abbrev pub invariant-loop-effect : goal.invariant-loop-effect
invariant-loop-effect l = record {
  room : RoomForAll (into_iter_items l.effect-iterator) l.stored;
  value : after (map effect_of (into_iter_items l.effect-iterator)) (view l.stored) ≡ after (map effect_of l.fn.effects.items) (view l.fn.stored);
}
