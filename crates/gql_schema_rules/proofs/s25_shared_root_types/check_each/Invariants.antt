use Rattle.std.proofs.Common.{◌≡◌, ◌++◌, map, flat_map, take}
use Rattle.gql_schema_rules.specs.S25SharedRootTypes.{fault_with}
use Rattle.gql_schema_rules.proofs.s25_shared_root_types.check_each.Given as goal

abbrev pub invariant-loop-earlier : goal.invariant-loop-earlier
invariant-loop-earlier l = l.faults.items ≡ l.initial.faults.items
    ++ flat_map (fault_with l.root) (map (λ q. q.now) (take l.earlier-index l.group))
