use Rattle.gql_wire.proofs.Splitting.{one_split_lem}
use Rattle.gql_wire.proofs.laws.one_split.Goals as goal

pub returns : goal.returns
returns c = λ limit. one_split_lem
