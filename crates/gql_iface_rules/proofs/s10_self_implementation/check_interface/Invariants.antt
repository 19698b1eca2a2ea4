use Rattle.std.proofs.Common.{◌≡◌, ◌++◌, flat_map, take}
use Rattle.gql_iface_rules.specs.S10SelfImplementation.{if_own_name}
use Rattle.gql_iface_rules.proofs.s10_self_implementation.check_interface.Given as goal

abbrev pub invariant-loop-name : goal.invariant-loop-name
invariant-loop-name l = l.faults.items
    ≡ l.initial.faults.items ++ flat_map (if_own_name l.of_type) (take l.name-index l.name-items)
