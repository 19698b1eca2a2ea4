use Rattle.gql_text.proofs.Readings.{reading, lexed_one, fails_one, lexed_or_fails}
use Rattle.gql_text.proofs.laws.one_reading.Goals as goal

pub returns-clause-some : goal.returns-clause-some
returns-clause-some c = λ limit source. reading limit source

pub returns-clause-one_list : goal.returns-clause-one_list
returns-clause-one_list c = λ limit source tokens others h g. lexed_one h g

pub returns-clause-one_fault : goal.returns-clause-one_fault
returns-clause-one_fault c = λ limit source refusal other place elsewhere h g. fails_one h g

pub returns-clause-not_both : goal.returns-clause-not_both
returns-clause-not_both c = λ limit source tokens refusal place h g. lexed_or_fails h g
