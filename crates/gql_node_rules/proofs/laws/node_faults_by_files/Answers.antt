use Rattle.gql_node_rules.proofs.ByFile.{forth, back}
use Rattle.gql_node_rules.proofs.laws.node_faults_by_files.Goals as goal

pub returns : goal.returns
returns c = λ files s f. (forth files s f, back files s f)
