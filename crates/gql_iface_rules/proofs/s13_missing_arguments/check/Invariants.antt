use Rattle.std.proofs.Common.{◌≡◌, ◌++◌, map, flat_map, take}
use Rattle.gql_iface_rules.specs.Borrowed.{pair}
use Rattle.gql_iface_rules.specs.S13MissingArguments.{missing_arguments}
use Rattle.gql_iface_rules.proofs.s13_missing_arguments.check.Given as goal

abbrev pub invariant-loop-fields : goal.invariant-loop-fields
invariant-loop-fields l = l.faults.items ≡ l.initial.faults.items
    ++ flat_map missing_arguments (map pair (take l.fields-index l.pairs))
