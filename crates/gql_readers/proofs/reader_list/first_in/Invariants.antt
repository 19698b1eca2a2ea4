use Rattle.std.proofs.Common.{◌≡◌, [], take}
use Rattle.gql_readers.specs.Chunks.{joined}
use Rattle.gql_readers.proofs.reader_list.first_in.Given as goal

abbrev pub invariant-loop-chunk : goal.invariant-loop-chunk
invariant-loop-chunk l = joined (take l.chunk-index l.chunks) ≡ []
