use Rattle.std.proofs.Common.{take}
use Rattle.gql_removal.specs.Removals.{without}
use Rattle.gql_usage.specs.Readers.{AreReaders}
use Rattle.gql_facts.specs.Presents.{facts_of_present}
use Rattle.gql_verdict.specs.SharedWorks.{Holds}
use Rattle.gql_usage.proofs.reader.readers_among.Given as goal

abbrev pub invariant-loop-definition : goal.invariant-loop-definition
invariant-loop-definition l = record {
  holds : Holds (without l.question.removal.now (facts_of_present l.question.present)) l.shared;
  so_far : AreReaders (facts_of_present l.question.present) l.question.removal.now (take l.definition-index l.definitions) l.readers.items;
}
