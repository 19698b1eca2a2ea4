use Rattle.std.proofs.Common.{◌≡◌, ◌≤◌, length, drop, bytes_eq}
use Rattle.gql_types.proofs.same_name.is_same_name.Given as goal

abbrev pub invariant-bytes : goal.invariant-bytes
invariant-bytes l = (l.is_same ≡ bytes_eq (drop l.place l.bytes) (drop l.place l.others))
    × (l.place ≤ length l.bytes) × (length l.bytes ≡ length l.others)

abbrev pub decreases-bytes : goal.decreases-bytes
decreases-bytes l = l.place
