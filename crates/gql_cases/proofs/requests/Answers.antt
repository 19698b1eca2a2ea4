use Rattle.gql_cases.proofs.OfRequests.{arguments_in_cases, variables_in_cases}
use Rattle.gql_cases.proofs.requests.Goals as goal

pub returns-clause-variables : goal.returns-clause-variables
returns-clause-variables c = variables_in_cases

pub returns-clause-arguments : goal.returns-clause-arguments
returns-clause-arguments c = arguments_in_cases
