use Rattle.gql_stored.proofs.Lasting.{one_list}
use Rattle.gql_stored.proofs.laws.one_list.Goals as goal

pub returns : goal.returns
returns c = one_list
