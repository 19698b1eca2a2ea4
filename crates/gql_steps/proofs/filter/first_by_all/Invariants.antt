use Rattle.std.proofs.Common.{◌≡◌, drop, find, map}
use Rattle.serde_json.specs.View.{view}
use Rattle.gql_steps.specs.Asked.{asked_members}
use Rattle.gql_steps.specs.Resolution.{meets}
use Rattle.gql_steps.proofs.filter.first_by_all.Given as goal

abbrev pub invariant-loop-i : goal.invariant-loop-i
invariant-loop-i l = find (meets (asked_members l.asked)) (map view l.items)
    ≡ find (meets (asked_members l.asked)) (map view (drop l.i l.items))
