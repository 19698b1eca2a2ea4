use Rattle.std.proofs.Common.{◌≡◌, ◌++◌}
use Rattle.std.specs.Vec.Iter.{into_iter_items}
use Rattle.gql_schema_rules.proofs.kept_faults.add_new.Given as goal

abbrev pub invariant-loop-fault : goal.invariant-loop-fault
invariant-loop-fault l = l.all.items ++ into_iter_items l.fault-iterator ≡ l.initial.all.items ++ l.fn.faults.items
