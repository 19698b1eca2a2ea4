use Rattle.std.proofs.Common.{◌≡◌, ◌++◌, map, take}
use Rattle.std.specs.Prelude.{Some}
use Rattle.gql_faults.specs.Places.{named}
use Rattle.gql_types.specs.Parts.{sited}
use Rattle.gql_node_rules.proofs.references.add_listed.Given as goal

abbrev pub invariant-loop-name : goal.invariant-loop-name
invariant-loop-name l = map named l.found.items ≡ map named l.initial.found.items ++ sited (Some l.file) (take l.name-index l.names)
