use Rattle.std.proofs.Common.{take}
use Rattle.gql_readers.specs.Chunks.{AreBefore}
use Rattle.gql_readers.proofs.reader_list.changes_before.Given as goal

abbrev pub invariant-loop-i : goal.invariant-loop-i
invariant-loop-i l = AreBefore l.id (take l.i l.changed)
