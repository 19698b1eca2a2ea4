use Rattle.std.proofs.Common.{◌≡◌, map, take}
use Rattle.gql_verdict.specs.V30SingleRootField.{fault_of}
use Rattle.gql_verdict.proofs.v30_single_root_field.faults_of.Given as goal

abbrev pub invariant-loop-fault : goal.invariant-loop-fault
invariant-loop-fault l = l.faults.items ≡ map (fault_of l.owner) (take l.fault-index l.found)
