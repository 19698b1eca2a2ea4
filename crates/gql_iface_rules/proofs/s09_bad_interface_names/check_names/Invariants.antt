use Rattle.std.proofs.Common.{◌≡◌, ◌++◌, flat_map, take}
use Rattle.gql_iface_rules.specs.S09BadInterfaceNames.{unless_interface}
use Rattle.gql_iface_rules.proofs.s09_bad_interface_names.check_names.Given as goal

abbrev pub invariant-loop-name : goal.invariant-loop-name
invariant-loop-name l = l.faults.items
    ≡ l.initial.faults.items ++ flat_map (unless_interface l.schema) (take l.name-index l.names)
