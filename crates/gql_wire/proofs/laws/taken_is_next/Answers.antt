use Rattle.gql_wire.proofs.Splitting.{taken_next}
use Rattle.gql_wire.proofs.laws.taken_is_next.Goals as goal

pub returns : goal.returns
returns c = λ limit. taken_next
