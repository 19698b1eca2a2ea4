use Rattle.gql_cases.proofs.OfInputs.{in_cases}
use Rattle.gql_cases.proofs.inputs.Goals as goal

pub returns : goal.returns
returns c = in_cases
