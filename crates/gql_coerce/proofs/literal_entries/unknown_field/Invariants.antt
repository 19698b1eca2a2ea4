use Rattle.std.proofs.Common.{◌≡◌, drop}
use Rattle.gql_coerce.specs.LiteralEntries.{first_unknown}
use Rattle.gql_coerce.proofs.literal_entries.unknown_field.Given as goal

abbrev pub invariant-loop-field : goal.invariant-loop-field
invariant-loop-field l = first_unknown l.of_type.input_fields l.fields ≡ first_unknown l.of_type.input_fields (drop l.field-index l.fields)
