use Rattle.gql_merge.proofs.BySetsBack.{back, there}
use Rattle.gql_merge.proofs.laws.merge_faults_are_of_sets.Goals as goal

pub returns : goal.returns
returns c = λ F d x. (there F d x, back F d x)
