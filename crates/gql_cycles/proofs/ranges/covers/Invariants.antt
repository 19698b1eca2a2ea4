use Rattle.std.proofs.Common.{◌≡◌, ◌<◌, [], ℕ, map, length, get_or}
use Rattle.gql_cycles.specs.SegmentTree.{IsCover}
use Rattle.gql_cycles.proofs.ranges.covers.Given as goal

abbrev pub invariant-loop-ranges_there : goal.invariant-loop-ranges_there
invariant-loop-ranges_there l = record {
  count : length l.rows.items ≡ l.ranges_there-index;
  rows : (i : ℕ) → i < l.ranges_there-index → IsCover l.count (get_or (map (λ v. v.items) l.ranges) i []) (get_or (map (λ v. v.items) l.rows.items) i []);
}
