use Rattle.gql_cases.proofs.OfFields.{flattens}
use Rattle.gql_cases.proofs.fields.Goals as goal

pub returns : goal.returns
returns c = flattens
