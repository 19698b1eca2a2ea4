use Rattle.gql_rules.proofs.OfFiles as files
use Rattle.gql_rules.proofs.laws.same_inputs.Goals as goal

pub returns : goal.returns
returns c = λ of_files name. files.same_inputs of_files name
