use Rattle.std.proofs.Common.{◌≡◌, ◌++◌, take}
use Rattle.gql_types.specs.Parts.{sited}
use Rattle.gql_types.proofs.parts.add_nodes.Given as goal

abbrev pub invariant-loop-node : goal.invariant-loop-node
invariant-loop-node g l = l.found.items ≡ l.initial.found.items ++ sited l.file (take l.node-index l.nodes)
