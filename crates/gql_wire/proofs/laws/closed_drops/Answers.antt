use Rattle.gql_wire.proofs.Splitting.{closed_lem}
use Rattle.gql_wire.proofs.laws.closed_drops.Goals as goal

pub returns : goal.returns
returns c = λ limit. closed_lem
