use Rattle.std.proofs.Common.{◌≡◌, take}
use Rattle.gql_push.specs.Resources.{entries_at, entries_of}
use Rattle.gql_push.proofs.edits.resources_of.Given as goal

abbrev pub invariant-loop-file : goal.invariant-loop-file
invariant-loop-file l = entries_of l.resources.items ≡ entries_at l.most (take l.file l.files)
