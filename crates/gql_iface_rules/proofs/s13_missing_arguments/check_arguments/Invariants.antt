use Rattle.std.proofs.Common.{◌≡◌, ◌++◌, flat_map, take}
use Rattle.gql_iface_rules.specs.Borrowed.{pair}
use Rattle.gql_iface_rules.specs.S13MissingArguments.{missing_argument}
use Rattle.gql_iface_rules.proofs.s13_missing_arguments.check_arguments.Given as goal

abbrev pub invariant-loop-argument : goal.invariant-loop-argument
invariant-loop-argument l = l.faults.items ≡ l.initial.faults.items
    ++ flat_map (missing_argument (pair l.fields) l.own) (take l.argument-index l.expected)
