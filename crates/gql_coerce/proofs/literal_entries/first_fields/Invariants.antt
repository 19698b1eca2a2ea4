use Rattle.std.proofs.Common.{◌≡◌, ℕ, List, map, is_some, bytes_eq, take}
use Rattle.std.specs.HashMap as hash
use Rattle.std.specs.List.{list_any}
use Rattle.gql_ast.specs.declared.literal.ObjectField.{ObjectField}
use Rattle.gql_coerce.specs.Inputs.{firsts_by}
use Rattle.gql_coerce.specs.LiteralEntries.{name_of}
use Rattle.gql_coerce.proofs.literal_entries.first_fields.Given as goal

abbrev pub invariant-loop-field : goal.invariant-loop-field
invariant-loop-field l = ((q : List ℕ) → is_some (hash.get_by (λ k. bytes_eq q k.now) l.seen) ≡ list_any (λ (f : ObjectField). bytes_eq q (name_of f)) (take l.field-index l.fields))
    × (map (λ f. f.now) l.firsts.items ≡ firsts_by name_of (take l.field-index l.fields))
