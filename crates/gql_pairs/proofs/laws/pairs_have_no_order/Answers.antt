use Rattle.gql_pairs.proofs.Entries.{no_order}
use Rattle.gql_pairs.proofs.laws.pairs_have_no_order.Goals as goal

pub returns : goal.returns
returns c = no_order
