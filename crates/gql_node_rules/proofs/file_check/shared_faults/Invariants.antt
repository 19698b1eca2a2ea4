use Rattle.std.proofs.Common.{◌≡◌, ◌++◌}
use Rattle.std.specs.Vec.Iter.{into_iter_items}
use Rattle.gql_node_rules.proofs.file_check.shared_faults.Given as goal

abbrev pub invariant-loop-fault : goal.invariant-loop-fault
invariant-loop-fault l = l.shared.items ++ into_iter_items l.fault-iterator ≡ l.fn.faults.items
