use Rattle.std.proofs.Common.{◌≡◌, take}
use Rattle.gql_removal.proofs.named.copied_locations.Given as goal

abbrev pub invariant-loop-location : goal.invariant-loop-location
invariant-loop-location l = l.copies ≡ take l.location-index l.locations
