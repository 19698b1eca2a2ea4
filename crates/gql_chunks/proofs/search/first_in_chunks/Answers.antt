use Rattle.std.proofs.Common.{◌∙◌, List, ap, find, not, rules, subst, sym}
use Rattle.std.specs.Ordering.{is_lt}
use Rattle.std.proofs.lemmas.List.Sorted.{IsPartitionPoint-from_clause}
use Rattle.gql_chunks.specs.Cuts.{ends_below}
use Rattle.gql_chunks.specs.Lists.{AreInOrder}
use Rattle.gql_chunks.proofs.Cutting.{chunk_at_in_order}
use Rattle.gql_chunks.proofs.Searching.{chunks_partitioned, find_in_chunk, find_in_chunks}
use Rattle.gql_chunks.proofs.search.first_in_chunks.Goals as goal

pub returns-in-None : goal.returns-in-None
returns-in-None g c =
    let o = g.P.Probe.order c.args.probe.now in
    let rises = g.met.P.Probe.rises c.args.probe.now in
    let cs = c.args.chunks.now in
    ap (find_in_chunk g.T.HasOrder.order o rises) c.in-None.ensures ∙ sym (find_in_chunks g.T.HasOrder.order o rises cs _ c.requires
    (IsPartitionPoint-from_clause (ends_below o) _ _ c.partition_point-place.ensures.partitioned (chunks_partitioned g.T.HasOrder.order o rises cs c.requires) (λ a r f k. search rules)))

pub first_from-requires : goal.first_from-requires
first_from-requires g c = subst (λ (zs : List g.row.T.Denot). AreInOrder g.T.HasOrder.order zs) (sym c.as_slice.ensures) (chunk_at_in_order g.T.HasOrder.order g.met.T.HasOrder.total c.args.chunks.now _ _ c.requires (sym c.in-Some.ensures))

pub returns-in-Some : goal.returns-in-Some
returns-in-Some g c =
    let o = g.P.Probe.order c.args.probe.now in
    let rises = g.met.P.Probe.rises c.args.probe.now in
    let cs = c.args.chunks.now in
    c.first_from.ensures ∙ ap (find (λ (x : g.row.T.Denot). not (is_lt (o x)))) c.as_slice.ensures ∙ ap (find_in_chunk g.T.HasOrder.order o rises) c.in-Some.ensures ∙ sym (find_in_chunks g.T.HasOrder.order o rises cs _ c.requires
    (IsPartitionPoint-from_clause (ends_below o) _ _ c.partition_point-place.ensures.partitioned (chunks_partitioned g.T.HasOrder.order o rises cs c.requires) (λ a r f k. search rules)))
