use Rattle.std.proofs.Common.{◌≡◌, drop}
use Rattle.gql_collect.specs.Conditions.{is_left_out}
use Rattle.serde_json.specs.View.{view}
use Rattle.gql_collect.proofs.conditions.is_left_out.Given as goal

abbrev pub invariant-loop-directive : goal.invariant-loop-directive
invariant-loop-directive l = is_left_out (view l.values) l.directives
    ≡ is_left_out (view l.values) (drop l.directive-index l.directives)
