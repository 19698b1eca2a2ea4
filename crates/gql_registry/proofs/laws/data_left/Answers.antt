use Rattle.gql_registry.proofs.DataLeft.{data_left}
use Rattle.gql_registry.proofs.laws.data_left.Goals as goal

pub returns : goal.returns
returns c = data_left
