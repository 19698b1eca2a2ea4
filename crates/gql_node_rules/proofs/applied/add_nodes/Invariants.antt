use Rattle.std.proofs.Common.{◌≡◌, ◌++◌, map, take}
use Rattle.gql_node_rules.specs.Applied.{all_at}
use Rattle.gql_node_rules.specs.Borrowed.{annotations, one}
use Rattle.gql_node_rules.proofs.applied.add_nodes.Given as goal

abbrev pub invariant-loop-node : goal.invariant-loop-node
invariant-loop-node g l = map annotations l.found.items ≡ map annotations l.initial.found.items ++ all_at l.location g.T.HasDirectives.directives (map one (take l.node-index l.nodes))
