use Rattle.std.proofs.Common.{◌≡◌, flat_map, take}
use Rattle.gql_merge.specs.BadPairs.{bad_at}
use Rattle.gql_merge.proofs.bad_pair.bad_pairs.Given as goal

abbrev pub invariant-loop-pair : goal.invariant-loop-pair
invariant-loop-pair l = l.bad.items ≡ flat_map (bad_at l.all) (take l.pair-index l.pairs)
