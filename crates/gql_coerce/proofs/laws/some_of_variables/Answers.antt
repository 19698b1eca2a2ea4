use Rattle.gql_coerce.proofs.Settled.{some_of_variables}
use Rattle.gql_coerce.proofs.laws.some_of_variables.Goals as goal

pub returns : goal.returns
returns c = some_of_variables
