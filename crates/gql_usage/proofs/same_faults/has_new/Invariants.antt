use Rattle.std.proofs.Common.{Contains, take}
use Rattle.gql_ast.specs.declared.fault.Fault.{Fault}
use Rattle.gql_usage.proofs.same_faults.has_new.Given as goal

abbrev pub invariant-loop-fault : goal.invariant-loop-fault
invariant-loop-fault l = (f : Fault) → Contains (take l.fault-index l.faults) f → Contains l.before f
