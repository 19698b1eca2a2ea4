use Rattle.std.proofs.Common.{◌≡◌, ◌++◌, map, flat_map, take}
use Rattle.gql_iface_rules.specs.S26DirectiveCycles.{fault_at_name}
use Rattle.gql_iface_rules.proofs.s26_directive_cycles.add_at_names.Given as goal

abbrev pub invariant-loop-name : goal.invariant-loop-name
invariant-loop-name l = l.faults.items ≡ l.initial.faults.items
    ++ flat_map (fault_at_name l.schema) (map (λ n. n.now) (take l.name-index l.names))
