use Rattle.std.proofs.Common.{◌≡◌, ◌++◌, flat_map, take}
use Rattle.gql_rules.specs.V09ArgumentUniqueness.{fault_of_argument}
use Rattle.gql_rules.proofs.v09_argument_uniqueness.check.Given as goal

abbrev pub invariant-loop-argument : goal.invariant-loop-argument
invariant-loop-argument l = l.faults.items
    ≡ l.initial.faults.items ++ flat_map (fault_of_argument l.owner l.given) (take l.argument-index l.given)
