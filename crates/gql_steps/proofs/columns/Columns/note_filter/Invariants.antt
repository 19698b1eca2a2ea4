use Rattle.std.proofs.Common.{◌≡◌, map}
use Rattle.serde_json.specs.Data.{Data}
use Rattle.serde_json.specs.View.{view}
use Rattle.gql_steps.specs.Columns.{AreColumnsOf, items_in}
use Rattle.gql_steps.specs.Resolution.{member_or_null}
use Rattle.gql_steps.proofs.columns.Columns.note_filter.Given as goal

abbrev pub invariant-loop-name : goal.invariant-loop-name
invariant-loop-name l = (object : Data) → items_in (member_or_null l.list object) ≡ map view l.items
    → AreColumnsOf object l.fn.self → AreColumnsOf object l.self
