use Rattle.std.proofs.Common.{◌≡◌, drop}
use Rattle.serde_json.specs.Data.{no_members}
use Rattle.serde_json.specs.View.{view}
use Rattle.gql_steps.specs.Asked.{asked_before}
use Rattle.gql_steps.specs.Resolution.{has_members}
use Rattle.gql_steps.proofs.asked.has_members.Given as goal

abbrev pub invariant-loop-argument : goal.invariant-loop-argument
invariant-loop-argument l = has_members (asked_before l.asked no_members) (view l.object)
    ≡ has_members (asked_before (drop l.argument-index l.asked) no_members) (view l.object)
