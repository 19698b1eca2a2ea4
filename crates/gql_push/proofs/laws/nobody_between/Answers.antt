use Rattle.gql_push.proofs.Undisturbed.{nobody_between}
use Rattle.gql_push.proofs.laws.nobody_between.Goals as goal

pub returns : goal.returns
returns c = nobody_between
