use Rattle.std.proofs.Common.{◌≡◌}
use Rattle.gql_coerce.specs.JsonEntries.{fields_in, first_unknown}
use Rattle.gql_coerce.proofs.json_entries.unknown_member.Given as goal

abbrev pub invariant-loop-name : goal.invariant-loop-name
invariant-loop-name l = first_unknown l.of_type.input_fields (fields_in l.members.entries) ≡ first_unknown l.of_type.input_fields (fields_in l.name-iterator)
