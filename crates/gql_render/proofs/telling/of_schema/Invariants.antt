use Rattle.std.proofs.Common.{◌≡◌, filter, take}
use Rattle.gql_render.specs.Telling.{is_of_schema_at}
use Rattle.gql_render.proofs.telling.of_schema.Given as goal

abbrev pub invariant-loop-place : goal.invariant-loop-place
invariant-loop-place l = l.found.items ≡ filter (is_of_schema_at l.findings) (take l.place-index l.places)
