use Rattle.std.proofs.Common.{◌≡◌, ◌++◌, take}
use Rattle.gql_verdict.proofs.shelf.add_all.Given as goal

abbrev pub invariant-loop-fault : goal.invariant-loop-fault
invariant-loop-fault l = l.found.items ≡ l.fn.found.items ++ take l.fault-index l.faults
