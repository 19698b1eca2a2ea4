use Rattle.gql_push.proofs.Pushes.{all_put_again}
use Rattle.gql_push.proofs.laws.all_put_again.Goals as goal

pub returns : goal.returns
returns c = all_put_again
