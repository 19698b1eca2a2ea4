use Rattle.gql_cases.proofs.OfMutations.{answer_in_turn_is, data_left, effects_in_turn_are, request_in_turn, value_in_turn}
use Rattle.gql_cases.proofs.mutations.Goals as goal

pub returns-clause-value : goal.returns-clause-value
returns-clause-value c = value_in_turn

pub returns-clause-effects : goal.returns-clause-effects
returns-clause-effects c = effects_in_turn_are

pub returns-clause-answer : goal.returns-clause-answer
returns-clause-answer c = answer_in_turn_is

pub returns-clause-request : goal.returns-clause-request
returns-clause-request c = request_in_turn

pub returns-clause-data : goal.returns-clause-data
returns-clause-data c = data_left
