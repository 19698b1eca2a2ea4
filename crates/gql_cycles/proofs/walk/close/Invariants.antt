use Rattle.std.proofs.Common.{◌≡◌, ℕ, get_or}
use Rattle.gql_cycles.specs.declared.walk.State.TheVariants.{New}
use Rattle.gql_cycles.proofs.Closed.{closed_between}
use Rattle.gql_cycles.proofs.walk.close.Given as goal

abbrev pub invariant-loop-i : goal.invariant-loop-i
invariant-loop-i l = (v : ℕ) → get_or l.states v New ≡ closed_between l.start l.mark l.i (get_or l.fn.states v New)
