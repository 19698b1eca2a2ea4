use Rattle.gql_http.proofs.DataPresence.{data_in_order_lem}
use Rattle.gql_http.proofs.laws.data_in_order.Goals as goal

pub returns : goal.returns
returns c = data_in_order_lem c.in_order.ensures c.data_present.ensures
