use Rattle.std.proofs.Common.{◌≡◌, ◌++◌, map, take}
use Rattle.gql_node_rules.specs.Borrowed.{one}
use Rattle.gql_node_rules.specs.Nodes.{within}
use Rattle.gql_node_rules.proofs.node.add_all.Given as goal

abbrev pub invariant-loop-holder : goal.invariant-loop-holder
invariant-loop-holder g l = map one l.found.items ≡ map one l.initial.found.items ++ within g.A.Holds.held (map one (take l.holder-index l.holders))
