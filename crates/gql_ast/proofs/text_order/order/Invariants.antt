use Rattle.std.proofs.Common.{◌≡◌, ◌≤◌, ◌-◌, length, drop}
use Rattle.std.specs.Ordering.{nat_cmp}
use Rattle.std.specs.Cmp.Lexicographic.{slice_cmp}
use Rattle.gql_ast.proofs.text_order.order.Given as goal

abbrev pub invariant-bytes : goal.invariant-bytes
invariant-bytes l = (slice_cmp nat_cmp l.text l.other ≡ slice_cmp nat_cmp (drop l.place l.text) (drop l.place l.other))
    × (l.place ≤ length l.text) × (l.place ≤ length l.other)

abbrev pub decreases-bytes : goal.decreases-bytes
decreases-bytes l = l.both - l.place
