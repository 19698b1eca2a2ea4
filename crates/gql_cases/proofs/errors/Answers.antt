use Rattle.gql_cases.proofs.OfErrors.{keeps_errors}
use Rattle.gql_cases.proofs.errors.Goals as goal

pub returns : goal.returns
returns c = keeps_errors
