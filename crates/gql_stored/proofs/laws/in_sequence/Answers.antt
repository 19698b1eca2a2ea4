use Rattle.gql_stored.proofs.Lasting.{in_sequence}
use Rattle.gql_stored.proofs.laws.in_sequence.Goals as goal

pub returns : goal.returns
returns c = in_sequence
