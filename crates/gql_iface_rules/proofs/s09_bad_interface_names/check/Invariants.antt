use Rattle.std.proofs.Common.{◌≡◌, ◌++◌, flat_map, take}
use Rattle.gql_iface_rules.specs.S09BadInterfaceNames.{bad_interface_names}
use Rattle.gql_iface_rules.proofs.s09_bad_interface_names.check.Given as goal

abbrev pub invariant-loop-of_type : goal.invariant-loop-of_type
invariant-loop-of_type l = l.faults.items
    ≡ l.initial.faults.items ++ flat_map (bad_interface_names l.schema) (take l.of_type-index l.types)
