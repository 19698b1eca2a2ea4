use Rattle.std.proofs.Common.{◌≡◌, ◌++◌, flat_map, take}
use Rattle.gql_schema_rules.specs.S18BadDefaultValues.{faults_of_field}
use Rattle.gql_schema_rules.proofs.s18_bad_default_values.check_fields.Given as goal

abbrev pub invariant-loop-field : goal.invariant-loop-field
invariant-loop-field l = l.faults.items
    ≡ l.initial.faults.items ++ flat_map (faults_of_field l.schema) (take l.field-index l.fields)
