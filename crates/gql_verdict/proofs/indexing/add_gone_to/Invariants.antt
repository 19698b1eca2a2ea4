use Rattle.std.proofs.Common.{◌≤◌, List, take}
use Rattle.gql_readers.specs.Changes.{AreNotesBetween}
use Rattle.gql_readers.specs.Readers.{InReadingOrder, Reader}
use Rattle.gql_verdict.specs.Marks.{gone}
use Rattle.gql_verdict.specs.Readings.{readers}
use Rattle.gql_verdict.proofs.indexing.add_gone_to.Given as goal

abbrev pub invariant-loop-i : goal.invariant-loop-i
invariant-loop-i l = record {
  bound : l.i ≤ l.to;
  noted : (new : List Reader) → InReadingOrder (readers (gone l.slots l.stay)) → AreNotesBetween l.fn.changes (readers (gone (take l.at l.slots) (take l.at l.stay))) new
      → AreNotesBetween l.changes (readers (gone (take l.i l.slots) (take l.i l.stay))) new;
}
