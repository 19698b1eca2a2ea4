use Rattle.std.proofs.Common.{◌≡◌, length}
use Rattle.serde_json.specs.View.{members_view}
use Rattle.gql_steps.specs.Resolution.{same_members}
use Rattle.gql_steps.proofs.same.compare_members.Given as goal

abbrev pub decreases-loop-key : goal.decreases-loop-key
decreases-loop-key l = length l.rest

abbrev pub invariant-loop-key : goal.invariant-loop-key
invariant-loop-key l = same_members (members_view l.fn.members) (members_view l.fn.others) ≡ same_members (members_view l.rest) (members_view l.other_rest)
