use Rattle.gql_wire.proofs.Splitting.{any_pieces_lem}
use Rattle.gql_wire.proofs.laws.any_pieces.Goals as goal

pub returns : goal.returns
returns c = λ limit. any_pieces_lem
