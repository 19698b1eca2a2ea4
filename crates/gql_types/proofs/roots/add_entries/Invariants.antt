use Rattle.std.proofs.Common.{◌≡◌, ◌++◌, take}
use Rattle.gql_types.specs.Roots.{entries}
use Rattle.gql_types.proofs.roots.add_entries.Given as goal

abbrev pub invariant-loop-entry : goal.invariant-loop-entry
invariant-loop-entry l = l.roots ≡ l.initial.roots ++ entries l.file (take l.entry-index l.entries)
