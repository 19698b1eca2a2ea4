use Rattle.std.proofs.Common.{◌≡◌, ◌++◌, flat_map, take}
use Rattle.gql_iface_rules.specs.Implementing.{implementations_of}
use Rattle.gql_iface_rules.specs.S12MissingFields.{missing_fields}
use Rattle.gql_iface_rules.proofs.s12_missing_fields.check.Given as goal

abbrev pub invariant-loop-of_type : goal.invariant-loop-of_type
invariant-loop-of_type l = l.faults.items ≡ l.initial.faults.items
    ++ flat_map missing_fields (flat_map (implementations_of l.schema) (take l.of_type-index l.types))
