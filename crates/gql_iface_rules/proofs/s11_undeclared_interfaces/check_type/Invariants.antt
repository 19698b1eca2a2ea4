use Rattle.std.proofs.Common.{◌≡◌, ◌++◌, flat_map, take}
use Rattle.gql_iface_rules.specs.Implementing.{implemented_by}
use Rattle.gql_iface_rules.specs.S11UndeclaredInterfaces.{undeclared_interfaces}
use Rattle.gql_iface_rules.proofs.s11_undeclared_interfaces.check_type.Given as goal

abbrev pub invariant-loop-name : goal.invariant-loop-name
invariant-loop-name l = l.faults.items ≡ l.initial.faults.items
    ++ flat_map (undeclared_interfaces l.schema l.of_type.interfaces) (flat_map (implemented_by l.schema l.of_type) (take l.name-index l.name-items))
