use Rattle.std.proofs.Common.{◌≡◌, drop}
use Rattle.std.specs.List.{list_any}
use Rattle.gql_intro.specs.References.{root_refers}
use Rattle.gql_intro.proofs.references.roots_refer.Given as goal

abbrev pub invariant-loop-root : goal.invariant-loop-root
invariant-loop-root l = list_any (root_refers l.name) l.roots ≡ list_any (root_refers l.name) (drop l.root-index l.roots)
