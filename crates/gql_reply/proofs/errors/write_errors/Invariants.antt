use Rattle.std.proofs.Common.{◌≡◌, ◌++◌, drop, map, false}
use Rattle.serde_json.specs.View.{items_of}
use Rattle.serde_json.specs.Written.{items_text}
use Rattle.gql_steps.specs.Outcomes.{error_of}
use Rattle.gql_reply.specs.ReplyText as spec
use Rattle.gql_reply.proofs.errors.write_errors.Given as goal

abbrev pub invariant-loop-error : goal.invariant-loop-error
invariant-loop-error l = l.out.items ++ items_text l.later (items_of (map spec.error (map error_of (drop l.error-index l.errors))))
    ≡ l.initial.out.items ++ items_text false (items_of (map spec.error (map error_of l.errors)))
