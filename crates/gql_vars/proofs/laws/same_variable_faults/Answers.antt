use Rattle.gql_vars.proofs.View as view
use Rattle.gql_vars.proofs.laws.same_variable_faults.Goals as goal

pub returns : goal.returns
returns c = λ v u d agree f. view.same_faults v u d agree f
