use Rattle.std.proofs.Common.{◌∙◌, List, ap, map, subst, sym}
use Rattle.std.specs.Vec.Iter.{into_iter_items}
use Rattle.serde_json.specs.View.{view}
use Rattle.gql_stored.specs.Effects.{after}
use Rattle.gql_stored.specs.Rooms.{effect_of}
use Rattle.gql_stored.specs.declared.effect.Effect.{Effect}
use Rattle.gql_stored.proofs.Covering.{RoomForAll, effect_is_ready, effect_turn, value_turn, first_by_parts}
use Rattle.gql_stored.proofs.stored_data.with_effects.Goals as goal

pub loop-effect-init : goal.loop-effect-init
loop-effect-init c = record {
  room = subst (λ (es : List Effect). RoomForAll es c.args.stored) (sym c.into_iter-effect-iterator.ensures.into_iter_gives.0) c.requires;
  value = ap (λ (es : List Effect). after (map effect_of es) (view c.args.stored)) c.into_iter-effect-iterator.ensures.into_iter_gives.0;
}

pub data_with-stored-requires : goal.data_with-stored-requires
data_with-stored-requires c =
    let e : Effect = record { to = c.into_parts-to.result.0; value = c.into_parts-to.result.1 } in
    let first = first_by_parts (into_iter_items c.loop-effect.effect-iterator) (into_iter_items c.next.new.self) c.in-Some.effect c.into_parts-to.result c.in-Some.ensures.steps.0 c.into_parts-to.ensures in
    effect_is_ready (into_iter_items c.loop-effect.effect-iterator) (into_iter_items c.next.new.self) e c.as_str.result.now c.loop-effect.stored first c.as_str.ensures.value c.loop-effect.invariant.room

pub loop-effect-preserved : goal.loop-effect-preserved
loop-effect-preserved c =
    let e : Effect = record { to = c.into_parts-to.result.0; value = c.into_parts-to.result.1 } in
    let first = first_by_parts (into_iter_items c.loop-effect.effect-iterator) (into_iter_items c.next.new.self) c.in-Some.effect c.into_parts-to.result c.in-Some.ensures.steps.0 c.into_parts-to.ensures in
    record {
      room = effect_turn (into_iter_items c.loop-effect.effect-iterator) (into_iter_items c.next.new.self) e c.as_str.result.now c.loop-effect.stored c.data_with-stored.result
          first c.as_str.ensures.value c.data_with-stored.ensures c.loop-effect.invariant.room;
      value = value_turn (into_iter_items c.loop-effect.effect-iterator) (into_iter_items c.next.new.self) e c.as_str.result.now c.loop-effect.stored c.data_with-stored.result
          first c.as_str.ensures.value c.data_with-stored.ensures ∙ c.loop-effect.invariant.value;
    }
