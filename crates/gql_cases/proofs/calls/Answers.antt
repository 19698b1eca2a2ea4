use Rattle.gql_cases.proofs.OfCalls.{same_text_for_same_call, shared_call_is_same_call}
use Rattle.gql_cases.proofs.SameTexts.{same_calls_one}
use Rattle.gql_cases.proofs.calls.Goals as goal

pub returns-clause-one_text : goal.returns-clause-one_text
returns-clause-one_text c = same_text_for_same_call

pub returns-clause-same_text : goal.returns-clause-same_text
returns-clause-same_text c = same_calls_one

pub returns-clause-shared : goal.returns-clause-shared
returns-clause-shared c = shared_call_is_same_call
