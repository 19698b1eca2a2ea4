use Rattle.std.proofs.Common.{take}
use Rattle.gql_facts.specs.Members.{Lists}
use Rattle.gql_removal.specs.Removals.{without}
use Rattle.gql_usage.specs.Adding.{IsBrokenName}
use Rattle.gql_facts.specs.Presents.{facts_of_present}
use Rattle.gql_verdict.specs.SharedWorks.{Holds}
use Rattle.gql_usage.proofs.reader.broken_names.Given as goal

abbrev pub invariant-loop-fragment : goal.invariant-loop-fragment
invariant-loop-fragment l = record {
  holds : Holds (without l.question.removal.now (facts_of_present l.question.present)) l.shared;
  so_far : Lists l.names.items (IsBrokenName (facts_of_present l.question.present) l.question.removal.now (take l.fragment-index l.fragments));
}
