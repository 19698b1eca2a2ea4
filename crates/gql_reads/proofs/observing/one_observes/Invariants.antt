use Rattle.std.proofs.Common.{Contains, take}
use Rattle.gql_reads.specs.Observations.{observed_in, keys_of}
use Rattle.gql_reads.proofs.observing.one_observes.Given as goal

abbrev pub invariant-loop-answer : goal.invariant-loop-answer
invariant-loop-answer l = Contains (keys_of (observed_in (take l.answer-index l.answers))) l.key → ⊥
