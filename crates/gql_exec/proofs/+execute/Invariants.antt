use Rattle.std.proofs.Common.{◌≡◌, ◌≤◌, ◌+◌, ◌*◌, List, take, length}
use Rattle.gql_inputs.specs.InputTypes.{name_in}
use Rattle.gql_types.specs.Written.{written}
use Rattle.serde_json.specs.View.{view}
use Rattle.gql_steps.specs.Columns.{AreColumnsOf}
use Rattle.gql_steps.specs.Execution.{Plan, stored}
use Rattle.gql_steps.specs.Objects.{basis}
use Rattle.gql_steps.specs.Parts.{all, numbered}
use Rattle.gql_steps.specs.Plans.{types_of}
use Rattle.gql_steps.specs.States.{Done, path_of}
use Rattle.gql_steps.specs.Tables.{Pair, StandFor, below_at, fields_at}
use Rattle.gql_steps.specs.ValueParts.{IsAsked, Keeps, field_part, item_part, items_in, site_of}
use Rattle.gql_exec.proofs.+execute.Given as goal

abbrev pub decreases-fields::execute_field : goal.decreases-fields::execute_field
decreases-fields::execute_field l = l.run.now.left * 16 + 0

abbrev pub decreases-lists::list_item : goal.decreases-lists::list_item
decreases-lists::list_item l = l.run.now.left * 16 + 0

abbrev pub decreases-objects::execute_fields : goal.decreases-objects::execute_fields
decreases-objects::execute_fields l = l.run.now.left * 16 + 1

abbrev pub decreases-lists::list_items : goal.decreases-lists::list_items
decreases-lists::list_items l = l.run.now.left * 16 + 1

abbrev pub decreases-objects::execute_object : goal.decreases-objects::execute_object
decreases-objects::execute_object l = l.run.now.left * 16 + 2

abbrev pub decreases-lists::complete_items : goal.decreases-lists::complete_items
decreases-lists::complete_items l = l.run.now.left * 16 + 2

abbrev pub decreases-objects::execute_below : goal.decreases-objects::execute_below
decreases-objects::execute_below l = l.run.now.left * 16 + 3

abbrev pub decreases-lists::complete_list : goal.decreases-lists::complete_list
decreases-lists::complete_list l = l.run.now.left * 16 + 3

abbrev pub decreases-values::complete_object : goal.decreases-values::complete_object
decreases-values::complete_object l = l.run.now.left * 16 + 4

abbrev pub decreases-values::complete_abstract : goal.decreases-values::complete_abstract
decreases-values::complete_abstract l = l.run.now.left * 16 + 4

abbrev pub decreases-values::complete_named : goal.decreases-values::complete_named
decreases-values::complete_named l = l.run.now.left * 16 + 5

abbrev pub decreases-values::complete_present : goal.decreases-values::complete_present
decreases-values::complete_present l = l.run.now.left * 16 + 6

abbrev pub decreases-values::complete : goal.decreases-values::complete
decreases-values::complete l = l.run.now.left * 16 + 7

abbrev pub decreases-values::complete_resolved : goal.decreases-values::complete_resolved
decreases-values::complete_resolved l = l.run.now.left * 16 + 8

abbrev pub decreases-fields::call_field : goal.decreases-fields::call_field
decreases-fields::call_field l = l.run.now.left * 16 + 11

abbrev pub decreases-lists::place_item : goal.decreases-lists::place_item
decreases-lists::place_item l = l.run.now.left * 16 + 8

abbrev pub decreases-fields::place_field : goal.decreases-fields::place_field
decreases-fields::place_field l = l.run.now.left * 16 + 12

abbrev pub decreases-lists::item_content : goal.decreases-lists::item_content
decreases-lists::item_content l = l.run.now.left * 16 + 9

abbrev pub decreases-fields::execute_content : goal.decreases-fields::execute_content
decreases-fields::execute_content l = l.run.now.left * 16 + 13

abbrev pub decreases-fields::call_stored : goal.decreases-fields::call_stored
decreases-fields::call_stored l = l.run.now.left * 16 + 10

abbrev pub invariant-objects::execute_fields-loop-i : goal.invariant-objects::execute_fields-loop-i
invariant-objects::execute_fields-loop-i l = record {
  keeps : Keeps (basis l.setting) l.initial.table l.table l.initial.run l.run;
  count : l.i-end ≡ length (fields_at l.initial.table.entries.items l.entry);
  columns : AreColumnsOf (view l.object) l.columns;
  done : (qs : List Pair) → StandFor (basis l.setting) (fields_at l.initial.table.entries.items l.entry) qs
      → Done (all (numbered (field_part (types_of (basis l.setting)) (stored (view l.object)) (path_of l.initial.run)) 0 (take l.i qs)))
      l.ended l.initial.run l.run;
}

abbrev pub invariant-lists::list_items-loop-i : goal.invariant-lists::list_items-loop-i
invariant-lists::list_items-loop-i l = record {
  keeps : Keeps (basis l.setting) l.fn.table l.table l.fn.run l.run;
  count : l.i-end ≡ length (items_in l.items);
  within : l.first ≤ length (items_in l.items);
  done : (x : Plan) → IsAsked (basis l.setting) l.site (name_in (written l.item)) (below_at l.fn.table l.site.slot) x
      → Done (all (numbered (item_part (written l.item) (site_of (types_of (basis l.setting)) l.site.place x) (path_of l.fn.run)) 0
      (take l.i (items_in l.items)))) l.ended l.fn.run l.run;
}
