use Rattle.gql_push.proofs.Undisturbed.{all_or_none}
use Rattle.gql_push.proofs.laws.all_or_none.Goals as goal

pub returns : goal.returns
returns c = all_or_none
