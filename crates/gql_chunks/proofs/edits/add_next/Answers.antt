use Rattle.std.proofs.Common.{◌≢◌, [], ◌++◌, ◌∙◌, ap, subst}
use Rattle.std.proofs.lemmas.List.Elements.{All-head, All-tail}
use Rattle.gql_chunks.specs.Cuts.{IsCut}
use Rattle.gql_chunks.specs.Edits.{edited}
use Rattle.gql_chunks.specs.Lists.{joined}
use Rattle.gql_chunks.proofs.Cutting.{chunk_edited, chunk_in_order, chunked_others, later_in_order}
use Rattle.gql_chunks.proofs.edits.add_next.Goals as goal

pub first_of-next-requires : goal.first_of-next-requires
first_of-next-requires g c = All-tail (λ z. z ≢ []) c.args.chunk.now c.args.others.now c.requires.chunks.full

pub add_edited_chunk-requires-clause-order : goal.add_edited_chunk-requires-clause-order
add_edited_chunk-requires-clause-order g c = chunk_in_order g.T.HasOrder.order g.met.T.HasOrder.total c.args.chunk.now c.args.others.now c.requires.chunks

pub add_edited_chunk-requires-clause-some : goal.add_edited_chunk-requires-clause-some
add_edited_chunk-requires-clause-some g c = All-head (λ z. z ≢ []) c.args.chunk.now c.args.others.now c.requires.chunks.full

pub returns-in_err-add_edited_chunk-clause-others : goal.returns-in_err-add_edited_chunk-clause-others
returns-in_err-add_edited_chunk-clause-others g c = chunked_others g.T.HasOrder.order g.met.T.HasOrder.total c.args.chunk.now c.args.others.now c.requires.chunks

pub returns-clause-others : goal.returns-clause-others
returns-clause-others g c = chunked_others g.T.HasOrder.order g.met.T.HasOrder.total c.args.chunk.now c.args.others.now c.requires.chunks

pub returns-clause-order : goal.returns-clause-order
returns-clause-order g c = later_in_order g.T.HasOrder.order g.met.T.HasOrder.total _ c.args.changed.now c.cut.result.0.now c.cut.result.1.now c.requires.changed c.cut.ensures

pub returns-clause-items : goal.returns-clause-items
returns-clause-items g c =
    let order = g.T.HasOrder.order in
    let comes = c.args.comes in
    let tail = joined c.args.others.now in
    ap (λ zs. zs ++ edited order comes tail c.cut.result.1.now) c.in_ok-add_edited_chunk.ensures.items
    ∙ chunk_edited order g.met.T.HasOrder.total comes (joined c.args.chunks.now.items) c.args.chunk.now tail c.args.changed.now c.cut.result.0.now c.cut.result.1.now
    c.requires.chunks.ordered (subst (λ o. IsCut order o c.args.changed.now c.cut.result.0.now c.cut.result.1.now) c.first_of-next.ensures c.cut.ensures)
