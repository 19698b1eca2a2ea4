use Rattle.std.proofs.Common.{◌≡◌, ◌++◌, flat_map, take}
use Rattle.std.specs.Option.{option_copied}
use Rattle.gql_node_rules.specs.S33BadArgumentValues.{fault_of_value}
use Rattle.gql_node_rules.proofs.s33_bad_argument_values.check_known.Given as goal

abbrev pub invariant-loop-argument : goal.invariant-loop-argument
invariant-loop-argument l = l.faults.items ≡ l.initial.faults.items
    ++ flat_map (fault_of_value l.schema (option_copied l.applied.file) l.signature.definition.now.node.arguments) (take l.argument-index l.argument-items)
