use Rattle.std.proofs.Common.{◌∙◌, ap, sym}
use Rattle.std.proofs.lemmas.List.{take_all}
use Rattle.std.specs.Prelude.{slice_get}
use Rattle.gql_readers.specs.Chunks.{joined}
use Rattle.gql_readers.proofs.Chunking.{first_found, none_more}
use Rattle.gql_readers.proofs.reader_list.first_in.Goals as goal

pub returns-in-Some : goal.returns-in-Some
returns-in-Some c =
    first_found c.args.chunks.now c.loop-chunk.chunk-index c.chunk-item.result c.in-Some.first.now c.loop-chunk-test.true c.chunk-item.is c.loop-chunk.invariant (sym c.in-Some.ensures)

pub loop-chunk-preserved : goal.loop-chunk-preserved
loop-chunk-preserved c =
    none_more c.args.chunks.now c.loop-chunk.chunk-index c.chunk-item.result c.loop-chunk-test.true c.chunk-item.is c.loop-chunk.invariant (sym c.in_default.ensures)

pub returns : goal.returns
returns c = ap (λ ids. slice_get ids 0) (sym c.loop-chunk.invariant ∙ ap joined (take_all _ _ c.loop-chunk-test.false))
