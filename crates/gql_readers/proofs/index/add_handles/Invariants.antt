use Rattle.std.proofs.Common.{◌≡◌, ◌++◌, take}
use Rattle.gql_readers.proofs.index.add_handles.Given as goal

abbrev pub invariant-loop-entry : goal.invariant-loop-entry
invariant-loop-entry l = l.all.items ≡ l.fn.all.items ++ take l.entry-index l.entries
