use Rattle.std.proofs.Common.{◌≡◌, ◌++◌, map, flat_map, take}
use Rattle.gql_iface_rules.specs.S19DefaultValueCycles.{fault_at_number}
use Rattle.gql_iface_rules.proofs.s19_default_value_cycles.add_at_inputs.Given as goal

abbrev pub invariant-loop-number : goal.invariant-loop-number
invariant-loop-number l = l.faults.items ≡ l.initial.faults.items
    ++ flat_map (fault_at_number (map (λ f. f.now) l.fields)) (take l.number-index l.numbers)
