use Rattle.std.proofs.Common.{◌≡◌, length}
use Rattle.gql_clashes.specs.Reach.{Reaching}
use Rattle.gql_clashes.specs.Seen.{IsSquare, rows_of}
use Rattle.gql_clashes.proofs.Marking.{left}
use Rattle.gql_clashes.proofs.reach.reach.Given as goal

abbrev pub invariant-loop-item : goal.invariant-loop-item
invariant-loop-item l = record {
  size : l.seen.count ≡ length l.sets.bodies.items;
  square : IsSquare (length l.sets.bodies.items) (rows_of l.seen);
  reaching : Reaching l.sets l.body (rows_of l.fn.seen) (rows_of l.seen) l.todo.items l.found.items;
}

abbrev pub decreases-loop-item : goal.decreases-loop-item
decreases-loop-item l = left (rows_of l.seen, l.todo.items)
