use Rattle.std.proofs.Common.{◌≡◌, length}
use Rattle.gql_steps.specs.DirectParts.{ScalarsWritten}
use Rattle.gql_steps.specs.ValueParts.{items_in}
use Rattle.gql_steps.proofs.direct_items.write_scalars.Given as goal

abbrev pub invariant-loop-i : goal.invariant-loop-i
invariant-loop-i l = record {
  count : l.i-end ≡ length (items_in l.items);
  written : ScalarsWritten l.scalar (items_in l.items) l.i l.initial.run l.run;
}
