use Rattle.gql_wire.proofs.Unique.{one_reading_lem}
use Rattle.gql_wire.proofs.laws.one_reading.Goals as goal

pub returns : goal.returns
returns c = λ limit. one_reading_lem
