use Rattle.std.proofs.Common.{◌≡◌, ◌≤◌, codes, length}
use Rattle.gql_deep.specs.Frames.{AtFields, Midway, field_parts}
use Rattle.gql_steps.specs.Objects.{basis}
use Rattle.gql_steps.specs.Parts.{Part}
use Rattle.gql_steps.specs.Tables.{Grows, IsRight, fields_at}
use Rattle.gql_steps.specs.declared.run.Run.{Run}
use Rattle.gql_deep.proofs.fields.run_fields.Given as goal

abbrev pub invariant-loop-i : goal.invariant-loop-i
invariant-loop-i l = record {
  right : IsRight (basis l.setting) l.table;
  grows : Grows l.initial.table l.table;
  left : l.run.left ≤ l.initial.run.left;
  count : l.i-end ≡ length (fields_at l.initial.table.entries.items l.frame.entry);
  done : (whole : Part) (start : Run) (at : AtFields (basis l.setting) l.initial.table l.frame whole start l.initial.run)
      → Midway (codes "{") (codes "}") (field_parts (basis l.setting) l.frame at.pairs start) l.i l.ended whole start l.run;
}
