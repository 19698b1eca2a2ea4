use Rattle.std.proofs.Common.{◌≡◌, drop, find, bytes_eq}
use Rattle.gql_coerce.proofs.literal_entries.first_value.Given as goal

abbrev pub invariant-loop-field : goal.invariant-loop-field
invariant-loop-field l = find (λ f. bytes_eq l.name f.name.text) l.fields ≡ find (λ f. bytes_eq l.name f.name.text) (drop l.field-index l.fields)
