use Rattle.std.proofs.Common.{◌≤◌, Ok}
use Rattle.std.specs.List.{All}
use Rattle.gql_deep.specs.Frames.{FitsFrame, FitsReached, Holds, Reaches, steps_left}
use Rattle.gql_steps.specs.Objects.{basis}
use Rattle.gql_steps.specs.Parts.{Part}
use Rattle.gql_steps.specs.Tables.{Grows, IsRight}
use Rattle.gql_steps.specs.declared.run.Run.{Run}
use Rattle.gql_deep.proofs.machine.finish.Given as goal

abbrev pub decreases-steps : goal.decreases-steps
decreases-steps l = steps_left l.run l.stack.items l.reached

abbrev pub invariant-steps : goal.invariant-steps
invariant-steps l = record {
  right : IsRight (basis l.setting) l.table;
  grows : Grows l.fn.table l.table;
  left : l.run.left ≤ l.fn.run.left;
  fits : All (FitsFrame l.table) l.stack.items;
  reached : FitsReached l.table l.reached;
  holds : (whole : Part) (start : Run) → Reaches (basis l.setting) l.fn.table whole (Ok l.fn.reached) start l.fn.run
      → Holds (basis l.setting) l.table l.stack.items l.reached l.run whole start;
}
