use Rattle.gql_stored.proofs.Lasting.{lists_stay}
use Rattle.gql_stored.proofs.laws.lists_stay.Goals as goal

pub returns : goal.returns
returns c = lists_stay
