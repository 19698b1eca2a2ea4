use Rattle.std.proofs.Common.{Some}
use Rattle.gql_coerce.proofs.Deeper.{one_in_time}
use Rattle.gql_coerce.specs.Coercion.{coerced}
use Rattle.gql_coerce.proofs.laws.one_outcome.Goals as goal

pub returns : goal.returns
returns c = λ s x t o p a b. one_in_time (λ n. coerced n s x (Some t)) o p a b
