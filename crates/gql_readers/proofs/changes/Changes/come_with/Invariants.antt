use Rattle.std.proofs.Common.{◌++◌, List, take}
use Rattle.gql_reads.specs.declared.observation.Answer.{Answer}
use Rattle.gql_readers.specs.Changes.{IsNew}
use Rattle.gql_readers.specs.Merged.{AreComing}
use Rattle.gql_readers.specs.Readers.{Reader}
use Rattle.gql_readers.proofs.changes.Changes.come_with.Given as goal

abbrev pub invariant-loop-answer : goal.invariant-loop-answer
invariant-loop-answer l = (coming going : List Reader) (before : List Answer) → IsNew l.id coming
    → AreComing l.fn.self coming going l.id before
    → AreComing l.self coming going l.id (before ++ take l.answer-index l.answers)
