use Rattle.gql_verdict.proofs.Certified.{faults_there, faults_back}
use Rattle.gql_verdict.proofs.laws.same_faults.Goals as goal

pub returns : goal.returns
returns c = λ v u d agree f. (faults_there v u d agree f, faults_back v u d agree f)
