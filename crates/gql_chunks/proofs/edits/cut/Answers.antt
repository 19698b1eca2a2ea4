use Rattle.std.proofs.Common.{refl, rules, subst, sym}
use Rattle.std.specs.Option.{option_copied}
use Rattle.std.specs.Ordering.{is_lt}
use Rattle.std.proofs.lemmas.List.Sorted.{IsPartitionPoint-from_clause}
use Rattle.gql_chunks.specs.Cuts.{IsCut}
use Rattle.gql_chunks.proofs.Cutting.{cut_at, cut_nowhere}
use Rattle.gql_chunks.proofs.Searching.{items_partitioned}
use Rattle.gql_chunks.proofs.Splitting.{rises_to}
use Rattle.gql_chunks.proofs.edits.cut.Goals as goal

pub returns-in-Some : goal.returns-in-Some
returns-in-Some g c =
    let order = g.T.HasOrder.order in
    let n = c.in-Some.next.now in
    let below = λ (x : g.row.T.Denot). is_lt (order x n) in
    subst (λ o. IsCut order (option_copied o) c.args.changed.now c.split_at.result.0.now c.split_at.result.1.now) (sym c.in-Some.is)
    (cut_at order g.met.T.HasOrder.total n c.args.changed.now _ _ _ (IsPartitionPoint-from_clause below _ _ c.partition_point-place.ensures.partitioned (items_partitioned order (λ x. order x n) (rises_to order g.met.T.HasOrder.total n) c.args.changed.now c.requires) (λ a r f k. search rules))
    c.split_at.ensures.front c.split_at.ensures.back)

pub returns-in-None : goal.returns-in-None
returns-in-None g c =
    let order = g.T.HasOrder.order in
    subst (λ o. IsCut order (option_copied o) c.args.changed.now c.args.changed.now _) (sym c.in-None.is) (cut_nowhere order g.met.T.HasOrder.total c.args.changed.now _ refl)
