use Rattle.std.proofs.Common.{◌≡◌, ◌++◌, flat_map, take}
use Rattle.gql_schema_rules.specs.P02SubscriptionRoots.{fault_of_root}
use Rattle.gql_schema_rules.proofs.p02_subscription_roots.check_roots.Given as goal

abbrev pub invariant-loop-root : goal.invariant-loop-root
invariant-loop-root l = l.faults.items
    ≡ l.initial.faults.items ++ flat_map fault_of_root (take l.root-index l.roots)
