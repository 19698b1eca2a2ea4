use Rattle.std.proofs.Common.{◌≡◌, ◌++◌, map, flat_map, take}
use Rattle.gql_faults.specs.Places.{named}
use Rattle.gql_schema_rules.specs.S04BuiltInNames.{fault_of_directive}
use Rattle.gql_schema_rules.proofs.s04_built_in_names.check_directives.Given as goal

abbrev pub invariant-loop-name : goal.invariant-loop-name
invariant-loop-name l = l.faults.items
    ≡ l.initial.faults.items ++ flat_map fault_of_directive (map named (take l.name-index l.names))
