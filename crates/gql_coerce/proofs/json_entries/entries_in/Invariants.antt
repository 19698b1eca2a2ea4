use Rattle.std.proofs.Common.{◌≡◌, ◌++◌, map}
use Rattle.gql_coerce.specs.Coercion.{any_entry}
use Rattle.gql_coerce.specs.JsonEntries.{entry_of, fields_in}
use Rattle.gql_coerce.proofs.json_entries.entries_in.Given as goal

abbrev pub invariant-loop-name : goal.invariant-loop-name
invariant-loop-name l = map any_entry (fields_in l.members.entries) ≡ map entry_of l.found.items ++ map any_entry (fields_in l.name-iterator)
