use Rattle.std.proofs.Common.{◌≡◌}
use Rattle.serde_json.specs.View.{members_view}
use Rattle.gql_steps.specs.Asked.{asked_before}
use Rattle.gql_steps.proofs.asked.taken_apart.Given as goal

abbrev pub invariant-loop-name : goal.invariant-loop-name
invariant-loop-name l = asked_before l.asked.items (members_view l.name-iterator) ≡ members_view l.arguments.entries
