use Rattle.std.proofs.Common.{◌≡◌, length, take}
use Rattle.gql_verdict.specs.Marks.{AreMarked, KeepMarks, OnlyMarks}
use Rattle.gql_verdict.proofs.marks.mark_all.Given as goal

abbrev pub invariant-loop-id : goal.invariant-loop-id
invariant-loop-id l = record {
  long : length l.marks ≡ length l.slots;
  kept : KeepMarks l.fn.marks l.marks;
  marked : AreMarked l.slots l.marks (take l.id-index l.ids);
  only : OnlyMarks l.slots l.fn.marks l.marks (take l.id-index l.ids);
}
