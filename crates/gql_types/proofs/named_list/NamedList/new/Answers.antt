use Rattle.std.proofs.Common.{map, subst, sym}
use Rattle.gql_types.specs.NamePlaces.{ArePlaces}
use Rattle.gql_types.proofs.named_list.NamedList.new.Goals as goal

pub invariant_of-result-2 : goal.invariant_of-result-2
invariant_of-result-2 g c =
    subst (λ places. ArePlaces places (map g.T.HasName.name c.args.things.items)) (sym c.in_ok-places-2.ensures)
    (subst (λ xs. ArePlaces c.in_ok-places.places (map g.T.HasName.name xs)) c.as_slice.ensures.value c.in_ok-places.ensures)
