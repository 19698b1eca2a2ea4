use Rattle.std.proofs.Common.{take}
use Rattle.gql_pairs.specs.Groups.{KeptPair}
use Rattle.gql_pairs.specs.Tables.{IsEntry}
use Rattle.gql_pairs.proofs.table.PairTable.has.Given as goal

abbrev pub invariant-loop-group : goal.invariant-loop-group
invariant-loop-group l = (k : KeptPair) → IsEntry (take l.group-index l.group-items) l.first l.second k → ⊥
