use Rattle.std.proofs.Common.{◌≡◌, map, All}
use Rattle.serde_json.specs.Data.{Data}
use Rattle.serde_json.specs.View.{members_view, view}
use Rattle.gql_steps.specs.Columns.{AreColumnsOf, IsTestOf, items_in}
use Rattle.gql_steps.specs.Resolution.{member_or_null}
use Rattle.gql_steps.proofs.Printing.{AreAmong}
use Rattle.gql_steps.proofs.columns.Columns.tests.Given as goal

abbrev pub invariant-loop-name : goal.invariant-loop-name
invariant-loop-name l = record {
  among : AreAmong (members_view l.name-iterator) (members_view l.arguments.entries);
  tests : (object : Data) → items_in (member_or_null l.list object) ≡ map view l.items → AreColumnsOf object l.self
      → All (IsTestOf (members_view l.arguments.entries) (map view l.items)) l.tests.items;
}
