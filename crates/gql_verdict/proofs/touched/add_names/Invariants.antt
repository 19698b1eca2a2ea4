use Rattle.std.proofs.Common.{◌≡◌, ◌++◌, flat_map, take}
use Rattle.gql_verdict.specs.DocumentEdits.{fragment_name_in}
use Rattle.gql_verdict.proofs.touched.add_names.Given as goal

abbrev pub invariant-loop-definition : goal.invariant-loop-definition
invariant-loop-definition l = l.names.items
    ≡ l.initial.names.items ++ flat_map fragment_name_in (take l.definition-index l.definitions)
