use Rattle.std.proofs.Common.{◌≡◌, ◌++◌, map, take}
use Rattle.gql_node_rules.specs.Applied.{types_at}
use Rattle.gql_node_rules.specs.Borrowed.{annotations, one}
use Rattle.gql_node_rules.proofs.applied.add_types.Given as goal

abbrev pub invariant-loop-definition : goal.invariant-loop-definition
invariant-loop-definition l = map annotations l.found.items ≡ map annotations l.initial.found.items ++ types_at (map one (take l.definition-index l.types))
