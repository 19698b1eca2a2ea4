use Rattle.std.proofs.Common.{◌≡◌, take}
use Rattle.gql_serving.specs.OwnedAmong.{owner_places}
use Rattle.gql_serving.proofs.owned.places_of.Given as goal

abbrev pub invariant-loop-member : goal.invariant-loop-member
invariant-loop-member l = l.places.items ≡ owner_places l.definition (take l.member-index l.members)
