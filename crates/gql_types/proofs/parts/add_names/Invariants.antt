use Rattle.std.proofs.Common.{◌≡◌, ◌++◌, take}
use Rattle.gql_types.specs.Parts.{sited}
use Rattle.gql_types.proofs.parts.add_names.Given as goal

abbrev pub invariant-loop-name : goal.invariant-loop-name
invariant-loop-name l = l.found.items ≡ l.initial.found.items ++ sited l.file (take l.name-index l.names)
