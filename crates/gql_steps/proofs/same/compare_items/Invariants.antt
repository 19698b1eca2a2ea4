use Rattle.std.proofs.Common.{◌≡◌, length}
use Rattle.serde_json.specs.View.{items_view}
use Rattle.gql_steps.specs.Resolution.{same_items}
use Rattle.gql_steps.proofs.same.compare_items.Given as goal

abbrev pub decreases-loop-item : goal.decreases-loop-item
decreases-loop-item l = length l.rest

abbrev pub invariant-loop-item : goal.invariant-loop-item
invariant-loop-item l = same_items (items_view l.items) (items_view l.others) ≡ same_items (items_view l.rest) (items_view l.other_rest)
