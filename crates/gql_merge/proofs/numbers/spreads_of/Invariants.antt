use Rattle.std.proofs.Common.{◌≡◌, bytes_eq, flat_map, take}
use Rattle.std.specs.HashMap as hash
use Rattle.gql_merge.specs.FieldSets.{list_of}
use Rattle.gql_merge.proofs.numbers.spreads_of.Given as goal

abbrev pub invariant-loop-name : goal.invariant-loop-name
invariant-loop-name l = l.numbers.items ≡ flat_map (λ n. list_of (hash.get_by (λ k. bytes_eq n.now k.now) l.fragments)) (take l.name-index l.names)
