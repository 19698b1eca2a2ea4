use Rattle.std.proofs.Common.{◌≡◌, ◌++◌, map, flat_map, take}
use Rattle.std.specs.List.{list_all}
use Rattle.gql_iface_rules.specs.Borrowed.{pair}
use Rattle.gql_iface_rules.specs.KnownNames.{is_answered}
use Rattle.gql_iface_rules.specs.S15IncompatibleFieldTypes.{incompatible_field_type}
use Rattle.gql_iface_rules.proofs.s15_incompatible_field_types.check.Given as goal

abbrev pub invariant-loop-fields : goal.invariant-loop-fields
invariant-loop-fields l = (l.faults.items ≡ l.initial.faults.items
    ++ flat_map (incompatible_field_type l.schema) (map pair (take l.fields-index l.pairs)))
    × (l.are_answered ≡ list_all (is_answered l.schema) (map pair (take l.fields-index l.pairs)))
