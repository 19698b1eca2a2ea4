use Rattle.std.proofs.Common.{◌≡◌, drop}
use Rattle.std.specs.List.{list_any}
use Rattle.gql_intro.specs.References.{tree_refers}
use Rattle.gql_intro.proofs.references.file_refers.Given as goal

abbrev pub invariant-loop-definition : goal.invariant-loop-definition
invariant-loop-definition l = list_any (λ d. tree_refers l.name d.tree) l.definitions ≡ list_any (λ d. tree_refers l.name d.tree) (drop l.definition-index l.definitions)
