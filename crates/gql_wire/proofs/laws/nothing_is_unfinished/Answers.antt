use Rattle.gql_wire.proofs.Unique.{nothing_unfinished}
use Rattle.gql_wire.proofs.laws.nothing_is_unfinished.Goals as goal

pub returns : goal.returns
returns c = λ limit. nothing_unfinished
