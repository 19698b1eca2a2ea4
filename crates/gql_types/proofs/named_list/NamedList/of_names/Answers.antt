use Rattle.std.proofs.Common.{◌≡◌, map, rules, subst, sym}
use Rattle.gql_types.specs.NamePlaces.{ArePlaces}
use Rattle.gql_types.proofs.named_list.NamedList.of_names.Goals as goal

pub invariant_of-result : goal.invariant_of-result
invariant_of-result g c =
    let names : map g.T.HasName.name c.args.things.items ≡ map g.U.HasName.name c.others.inside.things.items = search rules in
    let others : ArePlaces c.in-Some.places (map g.U.HasName.name c.others.inside.things.items) = let e = c.others.invariant in search rules in
    subst (λ places. ArePlaces places (map g.T.HasName.name c.args.things.items)) (sym c.in_ok-places-in-Some.ensures.cases)
    (subst (λ names. ArePlaces c.in-Some.places names) (sym names) others)
