use Rattle.std.proofs.Common.{◌≡◌, map, take}
use Rattle.gql_coerce.proofs.literal_entries.given_fields.Given as goal

abbrev pub invariant-loop-field : goal.invariant-loop-field
invariant-loop-field l = map (λ g. g.field.now) l.found.items ≡ map (λ f. f.now) (take l.field-index l.fields)
