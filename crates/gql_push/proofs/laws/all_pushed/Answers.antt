use Rattle.gql_push.proofs.Pushes.{all_pushed}
use Rattle.gql_push.proofs.laws.all_pushed.Goals as goal

pub returns : goal.returns
returns c = all_pushed
