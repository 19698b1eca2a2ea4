use Rattle.std.proofs.Common.{◌≡◌, ℕ, suc, map, drop, option_map, ◌∙◌}
use Rattle.std.specs.Option.{option_copied}
use Rattle.gql_types.specs.Written.{written}
use Rattle.serde_json.specs.View.{view}
use Rattle.gql_coerce.specs.Coercion.{coerced, array_of, item_at}
use Rattle.gql_coerce.specs.Frames.{step_at, items_rest}
use Rattle.gql_coerce.specs.Outcomes.{some}
use Rattle.gql_coerce.specs.Parts.{items_in}
use Rattle.gql_coerce.specs.declared.frame.Step.{Step}
use Rattle.gql_coerce.proofs.InTime.{ok_onward}
use Rattle.gql_coerce.proofs.ListSteps.{begins}
use Rattle.gql_coerce.proofs.lists.start_items.Goals as goal

pub returns : goal.returns
returns c =
    let expected = option_map written (option_copied c.args.expected) in
    ok_onward c.next_item.result (λ (step : Step). (n : ℕ) → items_rest (coerced (suc n) c.args.schema.now) expected (map view c.new.result) (drop 0 (items_in c.args.items)) ≡ step_at (suc n) c.args.schema.now step)
    (λ (step : Step). (n : ℕ) → some (array_of (item_at (coerced (suc n) c.args.schema.now) expected) (items_in c.args.items)) ≡ step_at (suc n) c.args.schema.now step)
    (λ step is n. begins (coerced (suc n) c.args.schema.now) expected (items_in c.args.items) c.new.result c.new.ensures ∙ is n)
    c.next_item.ensures
