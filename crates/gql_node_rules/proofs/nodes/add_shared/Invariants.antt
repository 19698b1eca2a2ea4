use Rattle.std.proofs.Common.{◌≡◌, ◌++◌, map, take}
use Rattle.std.specs.Prelude.{Some}
use Rattle.gql_types.specs.Parts.{sited}
use Rattle.gql_node_rules.specs.Borrowed.{one}
use Rattle.gql_node_rules.proofs.nodes.add_shared.Given as goal

abbrev pub invariant-loop-node : goal.invariant-loop-node
invariant-loop-node g l = map one l.found.items ≡ map one l.initial.found.items ++ sited (Some l.file) (take l.node-index l.nodes)
