use Rattle.std.proofs.Common.{◌≡◌, ◌++◌, take}
use Rattle.gql_schema_rules.proofs.kept_faults.add_shared.Given as goal

abbrev pub invariant-loop-fault : goal.invariant-loop-fault
invariant-loop-fault l = l.all.items ≡ l.initial.all.items ++ take l.fault-index l.faults
