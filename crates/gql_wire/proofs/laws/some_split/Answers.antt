use Rattle.gql_wire.proofs.Exists.{split_some}
use Rattle.gql_wire.proofs.laws.some_split.Goals as goal

pub returns : goal.returns
returns c = λ limit. split_some
