use Rattle.std.proofs.Common.{bytes_eq, take}
use Rattle.std.specs.HashMap as hash
use Rattle.gql_single_root.specs.Walks.{ArePlaces}
use Rattle.gql_single_root.proofs.walk.places_of.Given as goal

abbrev pub invariant-loop-place : goal.invariant-loop-place
invariant-loop-place l = ArePlaces l.members (take l.place l.members) (λ q. hash.get_by (λ k. bytes_eq q k.now) l.places)
