use Rattle.gql_http.proofs.Ordered.{in_order_lem}
use Rattle.gql_http.proofs.laws.in_order.Goals as goal

pub returns : goal.returns
returns c = in_order_lem c.nothing_is_unfinished.ensures c.some_split.ensures c.one_split.ensures c.more_bytes.ensures
