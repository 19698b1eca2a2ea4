use Rattle.std.proofs.Common.{◌≡◌, ◌++◌, map, take}
use Rattle.std.specs.Prelude.{Some}
use Rattle.gql_faults.specs.Places.{named}
use Rattle.gql_types.specs.Parts.{sited}
use Rattle.gql_node_rules.specs.References.{types_in}
use Rattle.gql_node_rules.proofs.references.add_entries.Given as goal

abbrev pub invariant-loop-entry : goal.invariant-loop-entry
invariant-loop-entry l = map named l.found.items ≡ map named l.initial.found.items ++ sited (Some l.file) (types_in (take l.entry-index l.entries))
