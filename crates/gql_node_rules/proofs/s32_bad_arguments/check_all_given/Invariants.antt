use Rattle.std.proofs.Common.{◌≡◌, ◌++◌, map, flat_map, take}
use Rattle.gql_faults.specs.Places.{named}
use Rattle.gql_node_rules.specs.S32BadArguments.{fault_of_given}
use Rattle.gql_node_rules.proofs.s32_bad_arguments.check_all_given.Given as goal

abbrev pub invariant-loop-name : goal.invariant-loop-name
invariant-loop-name l = l.faults.items ≡ l.initial.faults.items ++ flat_map (fault_of_given l.signature.definition.now.node.arguments) (map named (take l.name-index l.given))
