use Rattle.std.proofs.Common.{◌≡◌, ℕ, suc, drop, option_map, ap, ◌∙◌}
use Rattle.std.specs.Option.{option_copied}
use Rattle.gql_types.specs.Written.{written}
use Rattle.serde_json.specs.View.{members_view}
use Rattle.gql_coerce.specs.Coercion.{coerced}
use Rattle.gql_coerce.specs.Frames.{step_at, members_rest, object_frame, frame_by, or_stop}
use Rattle.gql_coerce.specs.Outcomes.{said}
use Rattle.gql_coerce.specs.Parts.{entries_in}
use Rattle.gql_coerce.specs.declared.frame.Step.{Step}
use Rattle.gql_coerce.proofs.InTime.{ok_onward}
use Rattle.gql_coerce.proofs.objects.resume_default.Goals as goal

pub returns-in-None : goal.returns-in-None
returns-in-None c =
    let expected = option_map written (option_copied c.args.object.expected) in
    let rest = drop c.args.object.next (entries_in c.args.object.entries) in
    ok_onward c.next_entry.result (λ (step : Step). (n : ℕ) → members_rest (coerced (suc n) c.args.schema.now) expected (members_view c.add_entry.new.members) rest ≡ step_at (suc n) c.args.schema.now step)
    (λ (step : Step). (n : ℕ) → frame_by (coerced (suc n) c.args.schema.now) (object_frame c.args.object c.args.name.now) (said c.args.coerced) ≡ step_at (suc n) c.args.schema.now step)
    (λ step is n. c.in_ok-add_entry.ensures (coerced (suc n) c.args.schema.now) rest expected
    ∙ ap (or_stop (members_rest (coerced (suc n) c.args.schema.now) expected (members_view c.add_entry.new.members) rest)) c.in-None.is ∙ is n)
    c.next_entry.ensures

pub returns : goal.returns
returns c = λ n.
    let expected = option_map written (option_copied c.args.object.expected) in
    let rest = drop c.args.object.next (entries_in c.args.object.entries) in
    c.in_ok-add_entry.ensures (coerced (suc n) c.args.schema.now) rest expected
    ∙ ap (or_stop (members_rest (coerced (suc n) c.args.schema.now) expected (members_view c.add_entry.new.members) rest)) c.in-Some.is
