use Rattle.std.proofs.Common.{◌≡◌, take}
use Rattle.gql_found.specs.EditChecks.{at_places}
use Rattle.gql_found.proofs.edit_check.faults_at.Given as goal

abbrev pub invariant-loop-place : goal.invariant-loop-place
invariant-loop-place l = l.picked.items ≡ at_places l.faults (take l.place-index l.places)
