use Rattle.std.proofs.Common.{◌≡◌, ◌++◌, map, take}
use Rattle.gql_rules.specs.V18ToV21Values.{fault_of_value}
use Rattle.gql_rules.proofs.v18_to_v21_values.add_faults.Given as goal

abbrev pub invariant-loop-bad : goal.invariant-loop-bad
invariant-loop-bad l = l.faults.items
    ≡ l.initial.faults.items ++ map (fault_of_value l.owner) (take l.bad-index l.found)
