use Rattle.std.proofs.Common.{◌≡◌, ◌++◌, map, flat_map, take}
use Rattle.gql_node_rules.specs.Resolved.{resolution}
use Rattle.gql_node_rules.specs.S33BadArgumentValues.{faults_by}
use Rattle.gql_node_rules.proofs.s33_bad_argument_values.check.Given as goal

abbrev pub invariant-loop-resolved : goal.invariant-loop-resolved
invariant-loop-resolved l = l.faults.items ≡ l.initial.faults.items
    ++ flat_map (λ r. faults_by l.schema r.known r.application) (map resolution (take l.resolved-index l.all))
