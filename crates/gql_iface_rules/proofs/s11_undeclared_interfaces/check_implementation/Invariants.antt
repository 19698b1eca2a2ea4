use Rattle.std.proofs.Common.{◌≡◌, ◌++◌, flat_map, take}
use Rattle.gql_iface_rules.specs.S11UndeclaredInterfaces.{unless_declared}
use Rattle.gql_iface_rules.proofs.s11_undeclared_interfaces.check_implementation.Given as goal

abbrev pub invariant-loop-name : goal.invariant-loop-name
invariant-loop-name l = l.faults.items ≡ l.initial.faults.items
    ++ flat_map (unless_declared l.schema l.names l.implementation.name.now) (take l.name-index l.name-items)
