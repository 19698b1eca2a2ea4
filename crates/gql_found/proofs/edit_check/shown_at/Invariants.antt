use Rattle.std.proofs.Common.{◌≡◌, take}
use Rattle.gql_found.specs.EditChecks.{shown_at}
use Rattle.gql_found.proofs.edit_check.shown_at.Given as goal

abbrev pub invariant-loop-place : goal.invariant-loop-place
invariant-loop-place l = l.operations.items ≡ shown_at l.reported (take l.place-index l.places)
