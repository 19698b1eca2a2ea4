use Rattle.std.proofs.Common.{◌≡◌, ◌++◌, ◌∷◌, [], map, take}
use Rattle.gql_node_rules.specs.Applied.{types_at, type_extensions_at}
use Rattle.gql_node_rules.specs.Borrowed.{annotations}
use Rattle.gql_node_rules.proofs.applied.type_and_extensions.Given as goal

abbrev pub invariant-loop-extension : goal.invariant-loop-extension
invariant-loop-extension l = map annotations l.found.items
    ≡ types_at (l.of_type.definition ∷ []) ++ type_extensions_at (take l.extension-index l.extension-items)
