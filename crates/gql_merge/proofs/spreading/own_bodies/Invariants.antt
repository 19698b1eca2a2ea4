use Rattle.std.proofs.Common.{◌≡◌, bytes_eq, map, take}
use Rattle.std.specs.HashMap as hash
use Rattle.gql_facts.specs.Worlds.{Facts}
use Rattle.gql_merge.specs.SpreadPlaces.{no_places, places_spread}
use Rattle.gql_merge.proofs.spreading.own_bodies.Given as goal

abbrev pub invariant-loop-member : goal.invariant-loop-member
invariant-loop-member l = record {
  fields : map (λ b. b.fields.items) l.bodies.items ≡ map no_places (take l.member-index l.members);
  spreads : (facts : Facts) → map (λ b. b.spreads.items) l.bodies.items
      ≡ map (places_spread (λ q. hash.get_by (λ k. bytes_eq q k.now) l.places) facts) (take l.member-index l.members);
}
