use Rattle.gql_http.proofs.Determined.{one_step_lem}
use Rattle.gql_http.proofs.laws.one_step.Goals as goal

pub returns : goal.returns
returns c = one_step_lem c.one_outcome.ensures.edit c.one_outcome.ensures.call c.one_outcome.ensures.report
