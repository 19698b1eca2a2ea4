use Rattle.std.proofs.Common.{◌≡◌, ◌++◌, map, take}
use Rattle.gql_types.specs.Definitions.{in_order_of}
use Rattle.gql_node_rules.specs.Borrowed.{one}
use Rattle.gql_node_rules.proofs.trees.add_file.Given as goal

abbrev pub invariant-loop-definition : goal.invariant-loop-definition
invariant-loop-definition l = map one l.found.items ≡ map one l.initial.found.items ++ in_order_of (take l.definition-index l.definitions)
