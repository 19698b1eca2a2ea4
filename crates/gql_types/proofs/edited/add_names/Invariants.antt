use Rattle.std.proofs.Common.{◌≡◌, ◌++◌, take}
use Rattle.gql_types.specs.Edits.{names_in}
use Rattle.gql_types.proofs.edited.add_names.Given as goal

abbrev pub invariant-loop-definition : goal.invariant-loop-definition
invariant-loop-definition l = l.names.items
    ≡ l.initial.names.items ++ names_in (take l.definition-index l.definitions)
