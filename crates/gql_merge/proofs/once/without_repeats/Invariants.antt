use Rattle.std.proofs.Common.{take}
use Rattle.gql_merge.proofs.Repeats.{AreSame}
use Rattle.gql_merge.proofs.once.without_repeats.Given as goal

abbrev pub invariant-loop-pair : goal.invariant-loop-pair
invariant-loop-pair l = AreSame l.once.items (take l.pair-index l.pairs)
