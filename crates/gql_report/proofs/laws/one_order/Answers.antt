use Rattle.gql_report.proofs.OneList.{one_list}
use Rattle.gql_report.proofs.laws.one_order.Goals as goal

pub returns : goal.returns
returns c = one_list
