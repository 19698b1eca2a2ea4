use Rattle.gql_text.proofs.Longest.{alone, no_longer}
use Rattle.gql_text.proofs.laws.longest_match.Goals as goal

pub returns-clause-alone : goal.returns-clause-alone
returns-clause-alone c = λ rest kind n s. alone rest kind n s

pub returns-clause-no_longer : goal.returns-clause-no_longer
returns-clause-no_longer c = λ rest kind other n m s less within t. no_longer rest kind other n m s less within t
