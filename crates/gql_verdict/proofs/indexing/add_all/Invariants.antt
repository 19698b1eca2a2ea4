use Rattle.std.proofs.Common.{◌≤◌, [], length, take}
use Rattle.gql_readers.specs.Changes.{AreNotesBetween}
use Rattle.gql_readers.specs.Readers.{InReadingOrder}
use Rattle.gql_verdict.specs.Marks.{gone}
use Rattle.gql_verdict.specs.Readings.{readers}
use Rattle.gql_verdict.specs.Slots.{verdicts}
use Rattle.gql_verdict.proofs.indexing.add_all.Given as goal

abbrev pub invariant-loop-step : goal.invariant-loop-step
invariant-loop-step l = record {
  within : l.at ≤ length l.kept;
  noted : InReadingOrder (readers (gone l.kept l.stay)) → InReadingOrder (readers (verdicts l.steps)) → AreNotesBetween l.fn.changes [] []
      → AreNotesBetween l.changes (readers (gone (take l.at l.kept) (take l.at l.stay))) (readers (verdicts (take l.step-index l.steps)));
}
