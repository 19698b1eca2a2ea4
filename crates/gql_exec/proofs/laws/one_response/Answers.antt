use Rattle.gql_exec.proofs.Alone.{alone}
use Rattle.gql_exec.proofs.laws.one_response.Goals as goal

pub returns : goal.returns
returns c = alone c.one_collection.ensures c.one_of_arguments.ensures c.one_of_variables.ensures
