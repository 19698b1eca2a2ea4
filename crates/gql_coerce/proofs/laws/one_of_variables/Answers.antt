use Rattle.gql_coerce.proofs.Deeper.{one_in_time}
use Rattle.gql_coerce.specs.Requests.{variables}
use Rattle.gql_coerce.proofs.laws.one_of_variables.Goals as goal

pub returns : goal.returns
returns c = λ s definitions values o p a b. one_in_time (λ n. variables n s definitions values) o p a b
