use Rattle.std.proofs.Common.{◌≡◌, ◌++◌, take}
use Rattle.gql_readers.proofs.reader_list.add_chunks.Given as goal

abbrev pub invariant-loop-chunk : goal.invariant-loop-chunk
invariant-loop-chunk l = l.all.items ≡ l.fn.all.items ++ take l.chunk-index l.chunks
