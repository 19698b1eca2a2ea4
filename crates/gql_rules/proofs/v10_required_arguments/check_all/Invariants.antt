use Rattle.std.proofs.Common.{◌≡◌, ◌++◌, filter, flat_map, take}
use Rattle.gql_rules.specs.V10RequiredArguments.{fault_about}
use Rattle.gql_rules.proofs.Requiring.{required_fact}
use Rattle.gql_rules.proofs.v10_required_arguments.check_all.Given as goal

abbrev pub invariant-loop-index : goal.invariant-loop-index
invariant-loop-index l = l.faults.items
    ≡ l.initial.faults.items ++ flat_map (fault_about l.owner l.at l.given) (take l.index (filter required_fact l.defined))
