use Rattle.std.proofs.Common.{◌≡◌, ◌++◌}
use Rattle.std.specs.Vec.Iter.{into_iter_items}
use Rattle.gql_types.specs.Batches.{AreFilled, filled, values_of}
use Rattle.gql_types.proofs.batched.with_batch.Given as goal

abbrev pub invariant-loop-slot : goal.invariant-loop-slot
invariant-loop-slot g l = record {
  list : l.list.items ++ filled (values_of l.batch) (into_iter_items l.slot-iterator)
      ≡ filled (values_of l.batch) l.fn.slots.items;
  rest : AreFilled (values_of l.batch) (into_iter_items l.slot-iterator);
}
