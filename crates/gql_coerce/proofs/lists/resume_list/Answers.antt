use Rattle.std.proofs.Common.{◌≡◌, ℕ, suc, map, drop, option_map, ap, ◌∙◌}
use Rattle.std.specs.Option.{option_copied}
use Rattle.gql_types.specs.Written.{written}
use Rattle.serde_json.specs.View.{view}
use Rattle.gql_coerce.specs.Coercion.{coerced}
use Rattle.gql_coerce.specs.Frames.{step_at, items_rest, list_frame, frame_by, or_stop}
use Rattle.gql_coerce.specs.Outcomes.{said}
use Rattle.gql_coerce.specs.Parts.{items_in}
use Rattle.gql_coerce.specs.declared.frame.Step.{Step}
use Rattle.gql_coerce.proofs.InTime.{ok_onward}
use Rattle.gql_coerce.proofs.lists.resume_list.Goals as goal

pub returns-in-None : goal.returns-in-None
returns-in-None c =
    let expected = option_map written (option_copied c.args.list.expected) in
    let rest = drop c.args.list.next (items_in c.args.list.items) in
    ok_onward c.next_item.result (λ (step : Step). (n : ℕ) → items_rest (coerced (suc n) c.args.schema.now) expected (map view c.add_item.new.values) rest ≡ step_at (suc n) c.args.schema.now step)
    (λ (step : Step). (n : ℕ) → frame_by (coerced (suc n) c.args.schema.now) (list_frame c.args.list) (said c.args.coerced) ≡ step_at (suc n) c.args.schema.now step)
    (λ step is n. c.in_ok-add_item.ensures (coerced (suc n) c.args.schema.now) rest
    ∙ ap (or_stop (items_rest (coerced (suc n) c.args.schema.now) expected (map view c.add_item.new.values) rest)) c.in-None.is ∙ is n)
    c.next_item.ensures

pub returns : goal.returns
returns c = λ n.
    let expected = option_map written (option_copied c.args.list.expected) in
    let rest = drop c.args.list.next (items_in c.args.list.items) in
    c.in_ok-add_item.ensures (coerced (suc n) c.args.schema.now) rest
    ∙ ap (or_stop (items_rest (coerced (suc n) c.args.schema.now) expected (map view c.add_item.new.values) rest)) c.in-Some.is
