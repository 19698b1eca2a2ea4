use Rattle.std.proofs.Common.{◌≡◌, ◌++◌, map, flat_map, take}
use Rattle.gql_node_rules.specs.Resolved.{resolution}
use Rattle.gql_node_rules.specs.S30BadLocations.{fault_by}
use Rattle.gql_node_rules.proofs.s30_bad_locations.check.Given as goal

abbrev pub invariant-loop-resolved : goal.invariant-loop-resolved
invariant-loop-resolved l = l.faults.items ≡ l.initial.faults.items
    ++ flat_map (λ r. fault_by r.known r.application) (map resolution (take l.resolved-index l.all))
