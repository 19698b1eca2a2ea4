use Rattle.gql_coerce.proofs.Settled.{some_of_arguments}
use Rattle.gql_coerce.proofs.laws.some_of_arguments.Goals as goal

pub returns : goal.returns
returns c = some_of_arguments
