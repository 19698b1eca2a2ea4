use Rattle.std.proofs.Common.{◌≡◌, map, take}
use Rattle.gql_render.specs.Picking.{picked}
use Rattle.gql_render.proofs.picking.picked.Given as goal

abbrev pub invariant-loop-place : goal.invariant-loop-place
invariant-loop-place g l = map (λ x. x.now) l.found.items ≡ picked l.items (take l.place-index l.places)
