use Rattle.gql_coerce.proofs.Deeper.{one_in_time}
use Rattle.gql_coerce.specs.Requests.{arguments}
use Rattle.gql_coerce.proofs.laws.one_of_arguments.Goals as goal

pub returns : goal.returns
returns c = λ s definitions given values o p a b. one_in_time (λ n. arguments n s definitions given values) o p a b
