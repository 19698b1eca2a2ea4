use Rattle.std.proofs.Common.{◌≡◌, ◌++◌, flat_map, take}
use Rattle.gql_schema_rules.specs.S08DuplicateArguments.{faults_of_field}
use Rattle.gql_schema_rules.proofs.s08_duplicate_arguments.check_fields.Given as goal

abbrev pub invariant-loop-field : goal.invariant-loop-field
invariant-loop-field l = l.faults.items
    ≡ l.initial.faults.items ++ flat_map faults_of_field (take l.field-index l.fields)
