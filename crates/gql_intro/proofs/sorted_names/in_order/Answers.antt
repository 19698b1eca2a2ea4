use Rattle.gql_types.proofs.EachOnce.{each_once}
use Rattle.gql_intro.proofs.sorted_names.in_order.Goals as goal

pub returns : goal.returns
returns c = each_once (λ n. n.now) c.args.names.items c.sort.new.self.items c.dedup.new.self.items
    c.sort.ensures.permutation c.in_ok-sort.ensures.sorted c.dedup.ensures.filtered
