use Rattle.gql_http.proofs.Presence.{report_then_lem}
use Rattle.gql_http.proofs.laws.report_then.Goals as goal

pub returns : goal.returns
returns c = report_then_lem
