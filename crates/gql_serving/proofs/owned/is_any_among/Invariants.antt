use Rattle.std.proofs.Common.{◌≡◌, false, take}
use Rattle.std.specs.HashSet.{contains}
use Rattle.std.specs.List.{list_any}
use Rattle.gql_serving.specs.Owners.{same_place}
use Rattle.gql_serving.proofs.owned.is_any_among.Given as goal

abbrev pub invariant-loop-place : goal.invariant-loop-place
invariant-loop-place l = list_any (contains same_place l.owners.places) (take l.place-index l.places) ≡ false
