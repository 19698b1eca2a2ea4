use Rattle.std.proofs.Common.{◌∙◌, sym, rules}
use Rattle.std.specs.Ordering.{is_lt}
use Rattle.std.proofs.lemmas.List.Sorted.{IsPartitionPoint-from_clause}
use Rattle.gql_chunks.proofs.Searching.{find_at_point, items_partitioned}
use Rattle.gql_chunks.proofs.search.first_from.Goals as goal

pub returns : goal.returns
returns g c =
    let o = g.P.Probe.order c.args.probe.now in
    let below = λ (x : g.row.T.Denot). is_lt (o x) in
    c.item_at.ensures ∙ sym (find_at_point below c.args.items.now _
    (IsPartitionPoint-from_clause below _ _ c.partition_point-place.ensures.partitioned (items_partitioned g.T.HasOrder.order o (g.met.P.Probe.rises c.args.probe.now) c.args.items.now c.requires) (λ a r f k. search rules)))
