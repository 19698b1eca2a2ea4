use Rattle.std.proofs.Common.{◌≡◌, map}
use Rattle.gql_cycles.specs.SegmentTree.{inner_rows}
use Rattle.gql_cycles.proofs.ranges.inner_rows.Given as goal

abbrev pub invariant-loop-segment : goal.invariant-loop-segment
invariant-loop-segment l = map (λ v. v.items) l.rows.items ≡ inner_rows l.segment
