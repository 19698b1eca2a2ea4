use Rattle.std.proofs.Common.{◌≡◌, ◌++◌, map, flat_map, take}
use Rattle.gql_faults.specs.Places.{named}
use Rattle.gql_schema_rules.specs.S27ExtensionsOfUnknownTypes.{fault_of_name}
use Rattle.gql_schema_rules.proofs.s27_extensions_of_unknown_types.check_names.Given as goal

abbrev pub invariant-loop-name : goal.invariant-loop-name
invariant-loop-name l = l.faults.items ≡ l.initial.faults.items
    ++ flat_map (fault_of_name l.schema) (map named (take l.name-index l.names))
