use Rattle.gql_merge.proofs.ByNames.{of_pairs, to_pairs}
use Rattle.gql_merge.proofs.BySetsBack.{back, there}
use Rattle.gql_merge.proofs.laws.merge_faults_are_of_fragments.Goals as goal

pub returns : goal.returns
returns c = λ F d x. (λ f. to_pairs F d x (there F d x f), λ f. back F d x (of_pairs F d x f))
