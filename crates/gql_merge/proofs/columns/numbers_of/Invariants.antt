use Rattle.std.proofs.Common.{◌≡◌, Some, bytes_eq, map, take}
use Rattle.std.specs.HashMap as hash
use Rattle.gql_merge.specs.Numbers.{IsIndexed, place_in}
use Rattle.gql_merge.proofs.columns.numbers_of.Given as goal

abbrev pub invariant-loop-place : goal.invariant-loop-place
invariant-loop-place l = record {
  places : IsIndexed (λ q. hash.get_by (λ k. bytes_eq q k.now) l.places) (take l.place l.texts);
  numbers : map Some l.numbers.items ≡ map (λ t. place_in t l.texts) (take l.place l.texts);
}
