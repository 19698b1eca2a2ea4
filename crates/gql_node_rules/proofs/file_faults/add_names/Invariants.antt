use Rattle.std.proofs.Common.{◌≡◌, ◌||◌, ℕ, List, bytes_eq, take}
use Rattle.std.specs.HashSet.{contains}
use Rattle.std.specs.List.{list_any}
use Rattle.gql_node_rules.specs.Resolved.{reference}
use Rattle.gql_node_rules.specs.declared.references.Reference.{Reference}
use Rattle.gql_node_rules.proofs.file_faults.add_names.Given as goal

abbrev pub invariant-loop-reference : goal.invariant-loop-reference
invariant-loop-reference l = (q : List ℕ) → contains bytes_eq l.names q
    ≡ (contains bytes_eq l.initial.names q || list_any (λ (r : Reference). bytes_eq q (reference r).name.node.text) (take l.reference-index l.references))
