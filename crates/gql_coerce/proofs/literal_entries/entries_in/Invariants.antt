use Rattle.std.proofs.Common.{◌≡◌, map, take}
use Rattle.serde_json.specs.Data.{Data}
use Rattle.gql_coerce.specs.Coercion.{any_entry}
use Rattle.gql_coerce.specs.Inputs.{literal_field}
use Rattle.gql_coerce.specs.LiteralEntries.{entry_of}
use Rattle.gql_coerce.proofs.literal_entries.entries_in.Given as goal

abbrev pub invariant-loop-field : goal.invariant-loop-field
invariant-loop-field l = (vs : Data) → map (entry_of vs) l.found.items ≡ map any_entry (map (literal_field vs) (map (λ f. f.now) (take l.field-index l.fields)))
