use Rattle.std.proofs.Common.{◌≡◌, filter, map, take}
use Rattle.gql_render.specs.Telling.{is_breaking_at}
use Rattle.gql_render.proofs.telling.breaking.Given as goal

abbrev pub invariant-loop-place : goal.invariant-loop-place
invariant-loop-place l = l.found.items ≡ filter (is_breaking_at l.findings (map (λ a. a.now) l.operations)) (take l.place-index l.places)
