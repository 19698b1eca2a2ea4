use Rattle.std.proofs.Common.{◌≡◌, map, take}
use Rattle.gql_render.proofs.picking.every.Given as goal

abbrev pub invariant-loop-item : goal.invariant-loop-item
invariant-loop-item g l = map (λ x. x.now) l.found.items ≡ take l.item-index l.items
