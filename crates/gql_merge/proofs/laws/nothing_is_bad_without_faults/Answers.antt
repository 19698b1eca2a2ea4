use Rattle.gql_merge.proofs.CleanPairs.{nothing_bad}
use Rattle.gql_merge.proofs.laws.nothing_is_bad_without_faults.Goals as goal

pub returns : goal.returns
returns c = λ F d none g h pair p bad. nothing_bad F d none g h pair p bad
