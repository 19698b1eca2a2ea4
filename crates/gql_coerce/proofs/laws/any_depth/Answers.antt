use Rattle.std.proofs.Common.{Some}
use Rattle.gql_coerce.proofs.Deeper.{stays}
use Rattle.gql_coerce.proofs.laws.any_depth.Goals as goal

pub returns : goal.returns
returns c = λ s x t o n is. (n, stays s x (Some t) o n is)
