use Rattle.std.proofs.Common.{◌≡◌, Contains, false, take}
use Rattle.gql_pairs.specs.Doubts.{in_doubt}
use Rattle.gql_pairs.specs.declared.doubt.Doubt.TheVariants as doubted
use Rattle.gql_reads.specs.Observations.{observed_in}
use Rattle.gql_reads.specs.declared.observation.Observation.{Observation}
use Rattle.gql_pairs.proofs.doubt.has_one.Given as goal

abbrev pub invariant-loop-answer : goal.invariant-loop-answer
invariant-loop-answer l = (o : Observation) → Contains (observed_in (take l.answer-index l.answers)) o → in_doubt (doubted.Fragments l.names) o.key ≡ false
