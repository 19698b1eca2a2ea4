use Rattle.std.proofs.Common.{◌≡◌, map, take}
use Rattle.gql_faults.specs.Places.{named}
use Rattle.gql_faults.proofs.names.name_places.Given as goal

abbrev pub invariant-loop-name : goal.invariant-loop-name
invariant-loop-name l = map named l.places.items ≡ take l.name-index l.names
