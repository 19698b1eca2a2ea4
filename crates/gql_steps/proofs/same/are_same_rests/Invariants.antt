use Rattle.std.proofs.Common.{◌≡◌, ◌&&◌, reverse}
use Rattle.gql_steps.specs.PairFrames.{same_rests, same_step, same_waiting}
use Rattle.gql_steps.proofs.same.are_same_rests.Given as goal

abbrev pub invariant-steps : goal.invariant-steps
invariant-steps l = same_rests l.fn.frame ≡ (same_step l.step && same_waiting (reverse l.stack.items))
