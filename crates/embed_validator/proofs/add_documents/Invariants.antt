use Rattle.gql_verdict.specs.SharedWorks.{Holds}
use Rattle.embed_validator.proofs.add_documents.Given as goal

abbrev pub invariant-loop-document : goal.invariant-loop-document
invariant-loop-document g l = record {
  can_next : (goal.iterator-loop-document g).can_next l.document-iterator;
  is_finite : (goal.iterator-loop-document g).is_finite l.document-iterator;
  holds : Holds (g.W.World.facts l.world) l.shared;
}
