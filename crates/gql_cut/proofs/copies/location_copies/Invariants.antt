use Rattle.std.proofs.Common.{◌≡◌, take}
use Rattle.gql_cut.proofs.copies.location_copies.Given as goal

abbrev pub invariant-loop-location : goal.invariant-loop-location
invariant-loop-location l = l.copies.items ≡ take l.location-index l.locations
