use Rattle.std.proofs.Common.{◌∙◌, Vec, Global, subst, sym}
use Rattle.serde_json.specs.declared.value.Value.{Value}
use Rattle.gql_stored.specs.Rooms.{IsCovered, count_to}
use Rattle.gql_stored.specs.declared.additions.Room.{Room}
use Rattle.gql_stored.specs.declared.effect.Effect.{Effect}
use Rattle.gql_stored.proofs.stored_data.StoredData.commit.Goals as goal

pub with_effects-requires : goal.with_effects-requires
with_effects-requires c = λ to. c.with_rooms.ensures.room to (count_to to c.into_parts-rooms.result.1.items)
    (subst (λ (p : Vec Room Global × Vec Effect Global). IsCovered c.replace-stored.result p.0.items to (count_to to p.1.items)) (sym c.into_parts-rooms.ensures)
    (subst (λ (v : Value). IsCovered v c.args.additions.rooms.items to (count_to to c.args.additions.effects.items))
    (sym (c.replace-stored.ensures.value ∙ c.self.view_is)) (c.requires.1 to)))
