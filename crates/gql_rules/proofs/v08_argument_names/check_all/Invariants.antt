use Rattle.std.proofs.Common.{◌≡◌, ◌++◌, flat_map, take}
use Rattle.gql_rules.specs.V08ArgumentNames.{fault_of_argument}
use Rattle.gql_rules.proofs.v08_argument_names.check_all.Given as goal

abbrev pub invariant-loop-argument : goal.invariant-loop-argument
invariant-loop-argument l = l.faults.items
    ≡ l.initial.faults.items ++ flat_map (fault_of_argument l.owner l.defined) (take l.argument-index l.given)
