use Rattle.std.proofs.Common.{take}
use Rattle.gql_reads.specs.Observations.{observed_in}
use Rattle.gql_usage.specs.Untouched.{AreLeft}
use Rattle.gql_usage.proofs.untouched.are_answers_untouched.Given as goal

abbrev pub invariant-loop-answer : goal.invariant-loop-answer
invariant-loop-answer l = AreLeft l.removal (observed_in (take l.answer-index l.answers))
