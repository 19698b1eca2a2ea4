use Rattle.std.proofs.Common.{◌≡◌, take}
use Rattle.gql_types.specs.Definitions.{in_order_of}
use Rattle.gql_node_rules.specs.OtherTrees.{others}
use Rattle.gql_node_rules.proofs.file_definitions.others.Given as goal

abbrev pub invariant-loop-definition : goal.invariant-loop-definition
invariant-loop-definition l = in_order_of l.found ≡ others (in_order_of (take l.definition-index l.definitions))
