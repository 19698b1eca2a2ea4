use Rattle.std.proofs.Common.{◌≡◌, ◌≤◌, codes, length}
use Rattle.gql_deep.specs.Frames.{AtItems, Midway, item_parts}
use Rattle.gql_steps.specs.Objects.{basis}
use Rattle.gql_steps.specs.Parts.{Part}
use Rattle.gql_steps.specs.Plans.{types_of}
use Rattle.gql_steps.specs.Tables.{Grows, IsRight}
use Rattle.gql_steps.specs.ValueParts.{data_items, site_of}
use Rattle.gql_steps.specs.declared.run.Run.{Run}
use Rattle.gql_deep.proofs.data_lists.run_items.Given as goal

abbrev pub invariant-loop-i : goal.invariant-loop-i
invariant-loop-i l = record {
  right : IsRight (basis l.setting) l.table;
  grows : Grows l.fn.table l.table;
  left : l.run.left ≤ l.fn.run.left;
  count : l.i-end ≡ length (data_items l.frame.items);
  done : (whole : Part) (start : Run) (at : AtItems (basis l.setting) l.fn.table l.frame whole start l.fn.run)
      → Midway (codes "[") (codes "]") (item_parts l.frame (site_of (types_of (basis l.setting)) l.frame.site.place at.plan) start) l.i l.ended whole start l.run;
}
