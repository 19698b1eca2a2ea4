use Rattle.std.proofs.Common.{◌≡◌, ◌++◌, map, flat_map, take}
use Rattle.gql_iface_rules.specs.Borrowed.{pair}
use Rattle.gql_iface_rules.specs.S14ExtraRequiredArguments.{extra_required_arguments}
use Rattle.gql_iface_rules.proofs.s14_extra_required_arguments.check.Given as goal

abbrev pub invariant-loop-fields : goal.invariant-loop-fields
invariant-loop-fields l = l.faults.items ≡ l.initial.faults.items
    ++ flat_map extra_required_arguments (map pair (take l.fields-index l.pairs))
