use Rattle.std.proofs.Common.{◌≡◌, [], take, length}
use Rattle.gql_verdict.specs.Marks.{AreKept}
use Rattle.gql_verdict.proofs.indexing.keep_all.Given as goal

abbrev pub invariant-loop-step : goal.invariant-loop-step
invariant-loop-step l = record {
  long : length l.marks ≡ length l.fn.marks;
  kept : AreKept [] (length l.fn.marks) l.fn.marks → AreKept (take l.step-index l.steps) (length l.fn.marks) l.marks;
}
