use Rattle.gql_push.proofs.Undisturbed.{stops_for_good}
use Rattle.gql_push.proofs.laws.stops_for_good.Goals as goal

pub returns : goal.returns
returns c = stops_for_good
