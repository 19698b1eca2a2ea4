use Rattle.gql_single_root.proofs.Reading as reading
use Rattle.gql_single_root.proofs.laws.same_single_root_faults.Goals as goal

pub returns : goal.returns
returns c = λ v u d agree x. reading.same_faults v u d agree x
