use Rattle.std.proofs.Common.{◌≡◌, false, take}
use Rattle.std.specs.List.{list_any}
use Rattle.gql_serving.specs.Owners.{same_place}
use Rattle.gql_serving.proofs.owned.is_listed.Given as goal

abbrev pub invariant-loop-other : goal.invariant-loop-other
invariant-loop-other l = list_any (same_place l.place) (take l.other-index l.places) ≡ false
