use Rattle.std.proofs.Common.{◌≡◌, ◌++◌, flat_map, take}
use Rattle.gql_schema_rules.specs.S18BadDefaultValues.{fault_of_default}
use Rattle.gql_schema_rules.proofs.s18_bad_default_values.check_arguments.Given as goal

abbrev pub invariant-loop-argument : goal.invariant-loop-argument
invariant-loop-argument l = l.faults.items
    ≡ l.initial.faults.items ++ flat_map (fault_of_default l.schema l.file) (take l.argument-index l.arguments)
