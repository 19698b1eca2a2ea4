use Rattle.gql_steps.proofs.Integers.{same_text}
use Rattle.gql_steps.proofs.laws.text_of_integers.Goals as goal

pub returns : goal.returns
returns c = same_text
