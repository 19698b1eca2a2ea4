use Rattle.std.proofs.Common.{◌≡◌, ◌++◌, map, take}
use Rattle.gql_node_rules.specs.Applied.{type_extensions_at}
use Rattle.gql_node_rules.specs.Borrowed.{annotations, one}
use Rattle.gql_node_rules.proofs.applied.add_type_extensions.Given as goal

abbrev pub invariant-loop-extension : goal.invariant-loop-extension
invariant-loop-extension l = map annotations l.found.items ≡ map annotations l.initial.found.items ++ type_extensions_at (map one (take l.extension-index l.extensions))
