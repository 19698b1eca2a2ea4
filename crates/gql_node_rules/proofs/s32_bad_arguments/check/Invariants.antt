use Rattle.std.proofs.Common.{◌≡◌, ◌++◌, map, flat_map, take}
use Rattle.gql_node_rules.specs.Resolved.{resolution}
use Rattle.gql_node_rules.specs.S32BadArguments.{faults_by}
use Rattle.gql_node_rules.proofs.s32_bad_arguments.check.Given as goal

abbrev pub invariant-loop-resolved : goal.invariant-loop-resolved
invariant-loop-resolved l = l.faults.items ≡ l.initial.faults.items
    ++ flat_map (λ r. faults_by r.known r.application) (map resolution (take l.resolved-index l.all))
