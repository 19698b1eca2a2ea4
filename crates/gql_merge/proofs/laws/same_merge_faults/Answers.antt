use Rattle.gql_merge.proofs.View as view
use Rattle.gql_merge.proofs.laws.same_merge_faults.Goals as goal

pub returns : goal.returns
returns c = λ v u d agree f. view.same_faults v u d agree f
