use Rattle.std.proofs.Common.{◌≡◌, take}
use Rattle.gql_chunks.specs.Lists.{joined}
use Rattle.gql_chunks.proofs.edits.handles.Given as goal

abbrev pub invariant-loop-chunk : goal.invariant-loop-chunk
invariant-loop-chunk g l = l.all.items ≡ joined (take l.chunk-index l.chunks)
