use Rattle.std.proofs.Common.{◌≡◌, ◌<◌, ℕ, None, get_or}
use Rattle.gql_server.proofs.together.are_free.Given as goal

abbrev pub invariant-loop-slot : goal.invariant-loop-slot
invariant-loop-slot g l = (c : ℕ) → c < l.slot-index → get_or l.seats c None ≡ None
