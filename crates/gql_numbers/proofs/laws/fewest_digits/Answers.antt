use Rattle.gql_numbers.proofs.OfFewest.{fewest_are_read}
use Rattle.gql_numbers.proofs.laws.fewest_digits.Goals as goal

pub returns : goal.returns
returns c = fewest_are_read
