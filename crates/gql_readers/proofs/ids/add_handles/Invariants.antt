use Rattle.std.proofs.Common.{◌≡◌, ◌++◌, take}
use Rattle.gql_readers.proofs.ids.add_handles.Given as goal

abbrev pub invariant-loop-id : goal.invariant-loop-id
invariant-loop-id l = l.all.items ≡ l.fn.all.items ++ take l.id-index l.ids
