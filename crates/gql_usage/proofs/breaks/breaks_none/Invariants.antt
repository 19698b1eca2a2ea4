use Rattle.std.proofs.Common.{take}
use Rattle.gql_removal.specs.Removals.{without}
use Rattle.gql_usage.specs.Breaks.{IsUnread}
use Rattle.gql_facts.specs.Presents.{facts_of_present}
use Rattle.gql_verdict.specs.SharedWorks.{Holds}
use Rattle.gql_usage.proofs.breaks.breaks_none.Given as goal

abbrev pub invariant-loop-definition : goal.invariant-loop-definition
invariant-loop-definition l = record {
  holds : Holds (without l.question.removal.now (facts_of_present l.question.present)) l.shared;
  so_far : IsUnread (facts_of_present l.question.present) l.question.removal.now (take l.definition-index l.definitions);
}
