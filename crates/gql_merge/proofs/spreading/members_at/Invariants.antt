use Rattle.std.proofs.Common.{◌≡◌, flat_map, take}
use Rattle.gql_merge.specs.SpreadPlaces.{member_at}
use Rattle.gql_merge.proofs.spreading.members_at.Given as goal

abbrev pub invariant-loop-place : goal.invariant-loop-place
invariant-loop-place l = l.found.items ≡ flat_map (member_at l.members) (take l.place-index l.places)
