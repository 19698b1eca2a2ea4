use Rattle.std.proofs.Common.{◌≡◌, ◌++◌, map, take}
use Rattle.gql_faults.specs.Faults.{faults_of}
use Rattle.gql_faults.specs.Places.{named}
use Rattle.gql_faults.proofs.fault.add_faults.Given as goal

abbrev pub invariant-loop-name : goal.invariant-loop-name
invariant-loop-name l = l.faults.items ≡ l.initial.faults.items ++ faults_of l.rule (map named (take l.name-index l.names))
