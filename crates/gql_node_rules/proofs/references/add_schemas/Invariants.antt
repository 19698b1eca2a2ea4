use Rattle.std.proofs.Common.{◌≡◌, ◌++◌, map, take}
use Rattle.gql_faults.specs.Places.{named}
use Rattle.gql_node_rules.specs.Borrowed.{one}
use Rattle.gql_node_rules.specs.Nodes.{within}
use Rattle.gql_node_rules.specs.References.{types_in}
use Rattle.gql_node_rules.proofs.references.add_schemas.Given as goal

abbrev pub invariant-loop-schema : goal.invariant-loop-schema
invariant-loop-schema l = map named l.found.items ≡ map named l.initial.found.items ++ within (λ s. types_in s.roots) (map one (take l.schema-index l.schemas))
