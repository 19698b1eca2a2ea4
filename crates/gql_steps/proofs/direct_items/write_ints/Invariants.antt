use Rattle.std.proofs.Common.{◌≡◌, length}
use Rattle.gql_inputs.specs.declared.scalar.Scalar.TheVariants.{Int as TheInt}
use Rattle.gql_steps.specs.DirectParts.{ScalarsWritten}
use Rattle.gql_steps.specs.ValueParts.{items_in}
use Rattle.gql_steps.proofs.direct_items.write_ints.Given as goal

abbrev pub invariant-loop-i : goal.invariant-loop-i
invariant-loop-i l = record {
  count : l.i-end ≡ length (items_in l.items);
  written : ScalarsWritten TheInt (items_in l.items) l.i l.initial.run l.run;
}
