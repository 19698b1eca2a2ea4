use Rattle.gql_inputs.proofs.Agreement as agreement
use Rattle.gql_inputs.proofs.laws.same_bad_values.Goals as goal

pub returns : goal.returns
returns c = λ u v t agree x. agreement.same_bad_values u v t agree x
