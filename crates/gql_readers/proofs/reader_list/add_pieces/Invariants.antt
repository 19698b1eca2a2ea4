use Rattle.std.proofs.Common.{◌≡◌, ◌++◌, length}
use Rattle.gql_readers.specs.Chunks.{joined}
use Rattle.gql_readers.proofs.reader_list.add_pieces.Given as goal

abbrev pub invariant-pieces : goal.invariant-pieces
invariant-pieces l = joined l.all.items ++ l.rest ≡ joined l.fn.all.items ++ l.fn.ids.items

abbrev pub decreases-pieces : goal.decreases-pieces
decreases-pieces l = length l.rest
