use Rattle.std.proofs.Common.{◌≡◌, length, take}
use Rattle.gql_readers.specs.Chunks.{joined}
use Rattle.gql_verdict.specs.Marks.{AreMarked, KeepMarks, OnlyMarks}
use Rattle.gql_verdict.proofs.marks.mark_chunks.Given as goal

abbrev pub invariant-loop-chunk : goal.invariant-loop-chunk
invariant-loop-chunk l = record {
  long : length l.marks ≡ length l.slots;
  kept : KeepMarks l.fn.marks l.marks;
  marked : AreMarked l.slots l.marks (joined (take l.chunk-index l.chunks));
  only : OnlyMarks l.slots l.fn.marks l.marks (joined (take l.chunk-index l.chunks));
}
