use Rattle.std.proofs.Common.{◌≡◌, length, take}
use Rattle.gql_clashes.specs.Numbered.{nodes_of}
use Rattle.gql_clashes.specs.Reach.{Needing}
use Rattle.gql_clashes.specs.Seen.{rows_of}
use Rattle.gql_clashes.proofs.needed.add_needed.Given as goal

abbrev pub invariant-loop-spread : goal.invariant-loop-spread
invariant-loop-spread l = record {
  count : l.seen.count ≡ length l.sets.bodies.items;
  needing : Needing l.sets l.body (take l.spread-index ((nodes_of l.sets).spreads l.body)) (rows_of l.seen) l.done.items l.fn.pairs.items l.pairs.items;
}
