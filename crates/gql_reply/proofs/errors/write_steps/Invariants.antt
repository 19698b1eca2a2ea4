use Rattle.std.proofs.Common.{◌≡◌, ◌++◌, drop, map, false}
use Rattle.serde_json.specs.View.{items_of}
use Rattle.serde_json.specs.Written.{items_text}
use Rattle.gql_steps.specs.Outcomes.{path_of}
use Rattle.gql_reply.specs.ReplyText as spec
use Rattle.gql_reply.proofs.errors.write_steps.Given as goal

abbrev pub invariant-loop-step : goal.invariant-loop-step
invariant-loop-step l = l.out.items ++ items_text l.later (items_of (map spec.step (path_of (drop l.step-index l.path))))
    ≡ l.initial.out.items ++ items_text false (items_of (map spec.step (path_of l.path)))
