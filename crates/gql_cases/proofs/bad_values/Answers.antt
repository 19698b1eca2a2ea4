use Rattle.gql_cases.proofs.OfMisfits.{in_cases}
use Rattle.gql_cases.proofs.bad_values.Goals as goal

pub returns : goal.returns
returns c = in_cases
