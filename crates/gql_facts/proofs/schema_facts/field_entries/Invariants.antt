use Rattle.std.proofs.Common.{◌≡◌, map, take}
use Rattle.gql_facts.specs.Tables.{field_entry}
use Rattle.gql_facts.proofs.schema_facts.field_entries.Given as goal

abbrev pub invariant-loop-field : goal.invariant-loop-field
invariant-loop-field l = l.entries.items ≡ map field_entry (take l.field-index l.fields)
