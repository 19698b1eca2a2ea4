use Rattle.std.proofs.Common.{◌≡◌, ◌++◌, length}
use Rattle.serde_json.specs.View.{items_view}
use Rattle.gql_steps.specs.JsonText.{items_text}
use Rattle.gql_steps.proofs.values.write_items.Given as goal

abbrev pub decreases-loop-item : goal.decreases-loop-item
decreases-loop-item l = length l.rest

abbrev pub invariant-loop-item : goal.invariant-loop-item
invariant-loop-item l = l.out.items ++ items_text l.later (items_view l.rest)
    ≡ l.fn.out.items ++ items_text l.fn.later (items_view l.items)
