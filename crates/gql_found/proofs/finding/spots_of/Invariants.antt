use Rattle.std.proofs.Common.{◌≡◌, map, take}
use Rattle.gql_found.specs.Spots.{spot_of}
use Rattle.gql_found.proofs.finding.spots_of.Given as goal

abbrev pub invariant-loop-place : goal.invariant-loop-place
invariant-loop-place l = l.spots.items ≡ map (spot_of l.sources) (take l.place-index l.at)
