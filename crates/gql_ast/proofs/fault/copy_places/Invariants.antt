use Rattle.std.proofs.Common.{◌≡◌, take}
use Rattle.gql_ast.proofs.fault.copy_places.Given as goal

abbrev pub invariant-loop-place : goal.invariant-loop-place
invariant-loop-place l = l.copies ≡ take l.place-index l.places
