use Rattle.std.proofs.Common.{◌≡◌, take}
use Rattle.gql_verdict.proofs.sharing.fitted_places.Given as goal

abbrev pub invariant-loop-place : goal.invariant-loop-place
invariant-loop-place l = l.fitted.items ≡ take l.place-index l.places
