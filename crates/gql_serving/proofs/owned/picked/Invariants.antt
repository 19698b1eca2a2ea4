use Rattle.std.proofs.Common.{take}
use Rattle.gql_serving.specs.Owned.{Picks}
use Rattle.gql_serving.specs.OwnedAmong.{IsOwnedAmong}
use Rattle.gql_serving.proofs.owned.picked.Given as goal

abbrev pub invariant-loop-fault : goal.invariant-loop-fault
invariant-loop-fault l = Picks (IsOwnedAmong l.places) (take l.fault-index l.faults) l.owned.items
