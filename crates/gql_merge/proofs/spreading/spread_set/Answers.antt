use Rattle.std.proofs.Common.{◌∙◌, ap, bytes_eq, flat_map, refl}
use Rattle.std.specs.HashMap as hash
use Rattle.gql_merge.proofs.SpreadWalks.{one_list, seeds_are, seeds_within}
use Rattle.gql_merge.specs.SpreadNames.{names_of}
use Rattle.gql_merge.specs.SpreadPlaces.{member_at}
use Rattle.gql_merge.proofs.spreading.spread_set.Goals as goal

pub spread_bodies-requires-clause-bodies : goal.spread_bodies-requires-clause-bodies
spread_bodies-requires-clause-bodies c =
    seeds_within c.args.members.now (λ q. hash.get_by (λ k. bytes_eq q k.now) c.args.places.now) c.requires.places c.args.bodies.now c.args.set.now c.as_slice-2.result.now c.requires.count
    (seeds_are (λ q. hash.get_by (λ k. bytes_eq q k.now) c.args.places.now) c.args.set.now c.as_slice.result.now c.in_ok-first.first.items c.as_slice-2.result.now
    c.as_slice.ensures.value c.in_ok-first.ensures c.as_slice-2.ensures.value)

pub returns : goal.returns
returns c =
    one_list c.args.members.now (λ q. hash.get_by (λ k. bytes_eq q k.now) c.args.places.now) c.args.bodies.now (names_of c.args.set.now) c.args.set.now c.as_slice-2.result.now c.in_ok-found.found.items
    c.in_ok-fragments.fragments.items (record { fragments = c.in_ok-fragments.fragments }) refl
    (seeds_are (λ q. hash.get_by (λ k. bytes_eq q k.now) c.args.places.now) c.args.set.now c.as_slice.result.now c.in_ok-first.first.items c.as_slice-2.result.now
    c.as_slice.ensures.value c.in_ok-first.ensures c.as_slice-2.ensures.value)
    c.in_ok-found.ensures (c.in_ok-fragments.ensures ∙ ap (flat_map (member_at c.args.members.now)) c.as_slice-3.ensures.value) refl
