use Rattle.std.proofs.Common.{◌≡◌, map, take}
use Rattle.serde_json.specs.Data.{Data}
use Rattle.gql_coerce.specs.Coercion.{defined_entry}
use Rattle.gql_coerce.specs.Inputs.{literal_field}
use Rattle.gql_coerce.specs.LiteralEntries.{entry_of}
use Rattle.gql_coerce.proofs.literal_entries.defined_entries.Given as goal

abbrev pub invariant-loop-definition : goal.invariant-loop-definition
invariant-loop-definition l = (vs : Data) → map (entry_of vs) l.found.items ≡ map (defined_entry (map (literal_field vs) (map (λ f. f.now) l.fields))) (take l.definition-index l.definitions)
