use Rattle.std.proofs.Common.{◌≡◌, take}
use Rattle.gql_pairs.proofs.table.PairTable.copy.Given as goal

abbrev pub invariant-loop-group : goal.invariant-loop-group
invariant-loop-group l = l.groups.items ≡ take l.group-index l.group-items
