use Rattle.gql_inputs.proofs.Agreement.{agree_back}
use Rattle.gql_inputs.proofs.laws.agreement_is_mutual.Goals as goal

pub returns : goal.returns
returns c = λ u v t agree. agree_back u v t agree
