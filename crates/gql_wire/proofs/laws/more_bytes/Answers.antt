use Rattle.gql_wire.proofs.Ends.{more_bytes_lem}
use Rattle.gql_wire.proofs.laws.more_bytes.Goals as goal

pub returns : goal.returns
returns c = λ limit. more_bytes_lem
