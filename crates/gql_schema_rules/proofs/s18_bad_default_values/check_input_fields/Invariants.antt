use Rattle.std.proofs.Common.{◌≡◌, ◌++◌, flat_map, take}
use Rattle.gql_schema_rules.specs.S18BadDefaultValues.{fault_of_input_field}
use Rattle.gql_schema_rules.proofs.s18_bad_default_values.check_input_fields.Given as goal

abbrev pub invariant-loop-field : goal.invariant-loop-field
invariant-loop-field l = l.faults.items
    ≡ l.initial.faults.items ++ flat_map (fault_of_input_field l.schema) (take l.field-index l.fields)
