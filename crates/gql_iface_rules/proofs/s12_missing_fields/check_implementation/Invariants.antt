use Rattle.std.proofs.Common.{◌≡◌, ◌++◌, flat_map, take}
use Rattle.gql_iface_rules.specs.Borrowed.{implements}
use Rattle.gql_iface_rules.specs.S12MissingFields.{missing_field}
use Rattle.gql_iface_rules.proofs.s12_missing_fields.check_implementation.Given as goal

abbrev pub invariant-loop-field : goal.invariant-loop-field
invariant-loop-field l = l.faults.items ≡ l.initial.faults.items
    ++ flat_map (missing_field (implements l.implementation)) (take l.field-index l.field-items)
