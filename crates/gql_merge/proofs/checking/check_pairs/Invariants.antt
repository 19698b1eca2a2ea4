use Rattle.std.proofs.Common.{◌≡◌, flat_map, take}
use Rattle.gql_merge.specs.PairFaults.{pair_faults}
use Rattle.gql_merge.proofs.checking.check_pairs.Given as goal

abbrev pub invariant-loop-pair : goal.invariant-loop-pair
invariant-loop-pair l = l.faults.items ≡ flat_map (pair_faults l.owner l.all) (take l.pair-index l.pairs)
