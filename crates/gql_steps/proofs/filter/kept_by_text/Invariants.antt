use Rattle.std.proofs.Common.{◌≡◌, filter, map, take}
use Rattle.serde_json.specs.View.{view}
use Rattle.gql_steps.specs.Asked.{text_member}
use Rattle.gql_steps.specs.Resolution.{meets}
use Rattle.gql_steps.proofs.filter.kept_by_text.Given as goal

abbrev pub invariant-loop-i : goal.invariant-loop-i
invariant-loop-i l = map (λ v. view v.now) l.found.items
    ≡ filter (meets (text_member l.argument)) (map view (take l.i l.items))
