use Rattle.std.proofs.Common.{◌≡◌, drop, find, map}
use Rattle.serde_json.specs.View.{view}
use Rattle.gql_steps.specs.Asked.{text_member}
use Rattle.gql_steps.specs.Resolution.{meets}
use Rattle.gql_steps.proofs.filter.first_by_text.Given as goal

abbrev pub invariant-loop-i : goal.invariant-loop-i
invariant-loop-i l = find (meets (text_member l.argument)) (map view l.items)
    ≡ find (meets (text_member l.argument)) (map view (drop l.i l.items))
