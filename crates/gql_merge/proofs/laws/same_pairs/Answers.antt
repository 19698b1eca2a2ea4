use Rattle.gql_merge.proofs.View.{bad_back, bad_there}
use Rattle.gql_merge.proofs.laws.same_pairs.Goals as goal

pub returns : goal.returns
returns c = λ v u g h agree p. (bad_there v u g h agree p, bad_back v u g h agree p)
