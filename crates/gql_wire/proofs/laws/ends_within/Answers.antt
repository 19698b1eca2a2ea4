use Rattle.gql_wire.proofs.Ends.{ends_within_lem}
use Rattle.gql_wire.proofs.laws.ends_within.Goals as goal

pub returns : goal.returns
returns c = λ limit. ends_within_lem
