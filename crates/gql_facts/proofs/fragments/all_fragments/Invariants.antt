use Rattle.std.proofs.Common.{◌≡◌, ◌++◌}
use Rattle.gql_facts.specs.Facts.{fragments}
use Rattle.gql_facts.proofs.fragments.all_fragments.Given as goal

abbrev pub invariant-loop-name : goal.invariant-loop-name
invariant-loop-name l = l.found.items ++ fragments l._name-iterator ≡ fragments l.documents
