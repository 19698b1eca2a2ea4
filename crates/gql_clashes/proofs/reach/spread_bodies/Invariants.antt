use Rattle.std.proofs.Common.{◌≡◌, length, take}
use Rattle.gql_clashes.specs.Reach.{AreSpread}
use Rattle.gql_clashes.specs.Seen.{rows_of}
use Rattle.gql_clashes.proofs.reach.spread_bodies.Given as goal

abbrev pub invariant-loop-body : goal.invariant-loop-body
invariant-loop-body l = record {
  count : l.seen.count ≡ length l.sets.bodies.items;
  spread : AreSpread l.sets (take l.body-index l.bodies) (rows_of l.seen) l.found.items;
}
