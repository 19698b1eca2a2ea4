use Rattle.gql_wire.proofs.Splitting.{taken_last}
use Rattle.gql_wire.proofs.laws.taken_is_last.Goals as goal

pub returns : goal.returns
returns c = λ limit. taken_last
