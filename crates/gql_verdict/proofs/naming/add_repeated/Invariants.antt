use Rattle.std.proofs.Common.{◌≡◌, ◌++◌, flat_map, map, take}
use Rattle.gql_verdict.specs.Borrowed.{named}
use Rattle.gql_verdict.specs.Naming.{fault_if_repeated}
use Rattle.gql_verdict.proofs.naming.add_repeated.Given as goal

abbrev pub invariant-loop-one : goal.invariant-loop-one
invariant-loop-one l = l.faults.items ≡ l.initial.faults.items
    ++ flat_map (fault_if_repeated l.rule (map named l.all)) (map named (take l.one-index l.all))
