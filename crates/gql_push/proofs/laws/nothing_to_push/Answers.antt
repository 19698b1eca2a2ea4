use Rattle.gql_push.proofs.Pushes.{nothing_to_push}
use Rattle.gql_push.proofs.laws.nothing_to_push.Goals as goal

pub returns : goal.returns
returns c = nothing_to_push
