use Rattle.gql_exec.proofs.SomeResponse.{some_response}
use Rattle.gql_exec.proofs.laws.some_response.Goals as goal

pub returns : goal.returns
returns c = some_response c.some_depth.ensures c.some_groups.ensures c.some_of_variables.ensures c.some_of_arguments.ensures c.named_refusals.ensures
