use Rattle.std.proofs.Common.{◌≡◌, take}
use Rattle.gql_registry.proofs.report.sharing.Given as goal

abbrev pub invariant-loop-fault : goal.invariant-loop-fault
invariant-loop-fault l = l.shared.items ≡ take l.fault-index l.faults
