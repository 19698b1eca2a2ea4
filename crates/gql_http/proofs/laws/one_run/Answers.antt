use Rattle.gql_http.proofs.Determined.{one_run_lem}
use Rattle.gql_http.proofs.laws.one_run.Goals as goal

pub returns : goal.returns
returns c = one_run_lem c.one_outcome.ensures.edit c.one_outcome.ensures.call c.one_outcome.ensures.report
