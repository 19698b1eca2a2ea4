use Rattle.std.proofs.Common.{◌≡◌, ◌++◌, List, take, length}
use Rattle.serde_json.specs.View.{view}
use Rattle.gql_steps.specs.Columns.{AreColumnsOf}
use Rattle.gql_steps.specs.Objects.{basis}
use Rattle.gql_steps.specs.Parts.{all, numbered}
use Rattle.gql_steps.specs.Plans.{types_of}
use Rattle.gql_exec.specs.RootParts.{effects_in, root_field, root_of, seen}
use Rattle.gql_steps.specs.States.{Done, path_of}
use Rattle.gql_steps.specs.Tables.{Pair, StandFor, fields_at}
use Rattle.gql_steps.specs.ValueParts.{Keeps}
use Rattle.gql_exec.proofs.mutation.root_fields.Given as goal

abbrev pub invariant-loop-i : goal.invariant-loop-i
invariant-loop-i l = record {
  keeps : Keeps (basis l.setting) l.initial.table l.table l.initial.run l.run;
  count : l.i-end ≡ length (fields_at l.initial.table.entries.items l.entry);
  columns : AreColumnsOf (view l.root.initial.now) l.columns;
  done : (qs : List Pair) → StandFor (basis l.setting) (fields_at l.initial.table.entries.items l.entry) qs
      → Done (all (numbered (root_field (types_of (basis l.setting)) (root_of (basis l.setting) l.root) (path_of l.initial.run)) 0 (take l.i qs)))
      l.ended l.initial.run l.run;
  effects : (qs : List Pair) → StandFor (basis l.setting) (fields_at l.initial.table.entries.items l.entry) qs
      → seen l.effects.items ≡ seen l.initial.effects.items ++ effects_in (root_of (basis l.setting) l.root) (take l.i qs);
}
