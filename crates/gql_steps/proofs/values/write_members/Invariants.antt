use Rattle.std.proofs.Common.{◌≡◌, ◌++◌, length}
use Rattle.serde_json.specs.View.{members_view}
use Rattle.gql_steps.specs.JsonText.{members_text}
use Rattle.gql_steps.proofs.values.write_members.Given as goal

abbrev pub decreases-loop-key : goal.decreases-loop-key
decreases-loop-key l = length l.rest

abbrev pub invariant-loop-key : goal.invariant-loop-key
invariant-loop-key l = l.out.items ++ members_text l.later (members_view l.rest)
    ≡ l.fn.out.items ++ members_text l.fn.later (members_view l.fn.members)
