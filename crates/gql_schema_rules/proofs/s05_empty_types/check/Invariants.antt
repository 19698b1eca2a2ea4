use Rattle.std.proofs.Common.{◌≡◌, ◌++◌, flat_map, take}
use Rattle.gql_schema_rules.specs.S05EmptyTypes.{fault_of_type}
use Rattle.gql_schema_rules.proofs.s05_empty_types.check.Given as goal

abbrev pub invariant-loop-of_type : goal.invariant-loop-of_type
invariant-loop-of_type l = l.faults.items
    ≡ l.initial.faults.items ++ flat_map fault_of_type (take l.of_type-index l.types)
