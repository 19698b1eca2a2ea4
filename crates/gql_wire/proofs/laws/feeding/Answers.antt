use Rattle.gql_wire.proofs.Splitting.{feeding_lem}
use Rattle.gql_wire.proofs.laws.feeding.Goals as goal

pub returns : goal.returns
returns c = λ limit. feeding_lem
