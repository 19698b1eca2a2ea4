use Rattle.std.proofs.Common.{◌≡◌, ◌++◌, flat_map, take}
use Rattle.gql_iface_rules.specs.S10SelfImplementation.{faults_of_type}
use Rattle.gql_iface_rules.proofs.s10_self_implementation.check.Given as goal

abbrev pub invariant-loop-of_type : goal.invariant-loop-of_type
invariant-loop-of_type l = l.faults.items
    ≡ l.initial.faults.items ++ flat_map faults_of_type (take l.of_type-index l.types)
