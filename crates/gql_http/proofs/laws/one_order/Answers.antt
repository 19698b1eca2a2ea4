use Rattle.gql_http.proofs.Ordered.{some_order_lem, one_order_lem}
use Rattle.gql_http.proofs.laws.one_order.Goals as goal

pub returns : goal.returns
returns c = record { some = some_order_lem c.some_split.ensures; one = one_order_lem c.one_split.ensures }
