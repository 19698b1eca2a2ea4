use Rattle.std.proofs.Common.{List, subst}
use Rattle.serde_json.specs.declared.value.Value.{Value}
use Rattle.gql_stored.specs.Rooms.{IsCovered, count_to}
use Rattle.gql_stored.specs.declared.effect.Effect.{Effect}
use Rattle.gql_stored.proofs.stored_data.StoredData.prepare.Goals as goal

pub returns-clause-room : goal.returns-clause-room
returns-clause-room c = (
  c.in_ok-rooms.ensures.are_empty,
  λ to. subst (λ (v : Value). IsCovered v c.in_ok-rooms.rooms.items to (count_to to c.args.effects.items)) c.self.view_is
      (subst (λ (es : List Effect). IsCovered c.self.inside.value c.in_ok-rooms.rooms.items to (count_to to es)) c.as_slice.ensures.value (c.in_ok-rooms.ensures.are_covered to)),
)
