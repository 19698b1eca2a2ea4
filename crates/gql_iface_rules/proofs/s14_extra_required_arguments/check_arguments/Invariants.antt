use Rattle.std.proofs.Common.{◌≡◌, ◌++◌, flat_map, take}
use Rattle.gql_iface_rules.specs.Borrowed.{pair}
use Rattle.gql_iface_rules.specs.S14ExtraRequiredArguments.{extra_required_argument}
use Rattle.gql_iface_rules.proofs.s14_extra_required_arguments.check_arguments.Given as goal

abbrev pub invariant-loop-argument : goal.invariant-loop-argument
invariant-loop-argument l = l.faults.items ≡ l.initial.faults.items
    ++ flat_map (extra_required_argument (pair l.fields) l.expected) (take l.argument-index l.arguments)
