use Rattle.std.proofs.Common.{◌≡◌, ◌++◌, map, take}
use Rattle.gql_faults.specs.Places.{named}
use Rattle.gql_node_rules.specs.Borrowed.{one}
use Rattle.gql_node_rules.specs.Nodes.{within}
use Rattle.gql_node_rules.specs.References.{types_in}
use Rattle.gql_node_rules.proofs.references.add_schema_extensions.Given as goal

abbrev pub invariant-loop-extension : goal.invariant-loop-extension
invariant-loop-extension l = map named l.found.items ≡ map named l.initial.found.items ++ within (λ e. types_in e.roots) (map one (take l.extension-index l.extensions))
