use Rattle.std.proofs.Common.{bytes_eq, take}
use Rattle.std.specs.HashMap as hash
use Rattle.gql_merge.specs.SpreadPlaces.{ArePlaces}
use Rattle.gql_merge.proofs.spreading.places_of.Given as goal

abbrev pub invariant-loop-place : goal.invariant-loop-place
invariant-loop-place l = ArePlaces l.members (take l.place l.members) (λ q. hash.get_by (λ k. bytes_eq q k.now) l.places)
