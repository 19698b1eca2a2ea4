use Rattle.gql_wire.proofs.Splitting.{rest_unfinished}
use Rattle.gql_wire.proofs.laws.rest_is_unfinished.Goals as goal

pub returns : goal.returns
returns c = λ limit. rest_unfinished
