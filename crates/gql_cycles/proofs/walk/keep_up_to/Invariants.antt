use Rattle.std.proofs.Common.{◌≤◌, ◌<◌, ℕ, length, get_or}
use Rattle.gql_cycles.proofs.walk.keep_up_to.Given as goal

abbrev pub invariant-above : goal.invariant-above
invariant-above l = (l.keep ≤ length l.bounds.items) × ((k : ℕ) → l.keep ≤ k → k < length l.bounds.items → l.position < get_or l.bounds.items k 0)

abbrev pub decreases-above : goal.decreases-above
decreases-above l = l.keep
