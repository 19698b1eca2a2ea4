use Rattle.std.proofs.Common.{◌≡◌, ◌++◌, []}
use Rattle.std.specs.Vec.Iter.{into_iter_items}
use Rattle.gql_types.specs.Batches.{filled}
use Rattle.gql_types.proofs.batched.kept_alone.Given as goal

abbrev pub invariant-loop-slot : goal.invariant-loop-slot
invariant-loop-slot g l = l.list.items ++ filled [] (into_iter_items l.slot-iterator) ≡ filled [] l.fn.slots.items
