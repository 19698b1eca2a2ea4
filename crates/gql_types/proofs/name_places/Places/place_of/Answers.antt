use Rattle.std.proofs.Common.{◌∙◌, bytes_eq, map, subst, sym}
use Rattle.gql_types.specs.NamePlaces.{ArePlaces, HasNames}
use Rattle.gql_types.specs.Prints.{HaveOwnPrints}
use Rattle.gql_types.proofs.Places.{by_names}
use Rattle.gql_types.proofs.name_places.Places.place_of.Goals as goal

pub returns-in-ByName : goal.returns-in-ByName
returns-in-ByName g c =
    let names : HasNames c.in-ByName.places (map g.T.HasName.name c.args.things.now) × (HaveOwnPrints (map g.T.HasName.name c.args.things.now) → ⊥)
    = subst (λ places. ArePlaces places (map g.T.HasName.name c.args.things.now)) c.in-ByName.is c.requires in
    c.place_by_name.ensures ∙ names.0.0 c.args.name.now ∙ sym (by_names g.T.HasName.name (bytes_eq c.args.name.now) 0 c.args.things.now)
