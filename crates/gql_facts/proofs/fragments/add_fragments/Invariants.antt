use Rattle.std.proofs.Common.{◌≡◌, ◌++◌, flat_map, take}
use Rattle.gql_facts.specs.Facts.{fragment_in}
use Rattle.gql_facts.proofs.fragments.add_fragments.Given as goal

abbrev pub invariant-loop-definition : goal.invariant-loop-definition
invariant-loop-definition l = l.found.items ≡ l.initial.found.items ++ flat_map fragment_in (take l.definition-index l.definitions)
