use Rattle.std.proofs.Common.{◌≡◌, ℕ, List, take, map, is_some, bytes_eq}
use Rattle.std.specs.HashMap as hash
use Rattle.gql_inputs.specs.BadValues.{is_given}
use Rattle.gql_inputs.specs.Values.{given_field}
use Rattle.gql_inputs.proofs.missing.names.Given as goal

abbrev pub invariant-loop-field : goal.invariant-loop-field
invariant-loop-field l = (q : List ℕ) → is_some (hash.get_by (λ k. bytes_eq q k.now) l.names) ≡ is_given (map given_field (take l.field-index l.fields)) q
