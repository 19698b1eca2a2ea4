use Rattle.std.proofs.Common.{Contains, take}
use Rattle.gql_reads.specs.Observations.{keys_of}
use Rattle.gql_reads.specs.Readings.{seen_in}
use Rattle.gql_verdict.proofs.verdict.one_part_observes.Given as goal

abbrev pub invariant-loop-part : goal.invariant-loop-part
invariant-loop-part l = Contains (keys_of (seen_in (take l.part-index l.parts))) l.key → ⊥
