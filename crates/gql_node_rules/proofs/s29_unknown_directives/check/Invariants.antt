use Rattle.std.proofs.Common.{◌≡◌, ◌++◌, map, flat_map, take}
use Rattle.gql_node_rules.specs.Resolved.{resolution, undefined}
use Rattle.gql_node_rules.proofs.s29_unknown_directives.check.Given as goal

abbrev pub invariant-loop-resolved : goal.invariant-loop-resolved
invariant-loop-resolved l = l.faults.items ≡ l.initial.faults.items ++ flat_map undefined (map resolution (take l.resolved-index l.all))
