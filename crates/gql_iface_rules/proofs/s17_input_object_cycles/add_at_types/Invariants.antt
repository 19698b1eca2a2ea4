use Rattle.std.proofs.Common.{◌≡◌, ◌++◌, map, flat_map, take}
use Rattle.gql_iface_rules.specs.S17InputObjectCycles.{fault_at_type}
use Rattle.gql_iface_rules.proofs.s17_input_object_cycles.add_at_types.Given as goal

abbrev pub invariant-loop-name : goal.invariant-loop-name
invariant-loop-name l = l.faults.items ≡ l.initial.faults.items
    ++ flat_map (fault_at_type l.schema) (map (λ n. n.now) (take l.name-index l.names))
