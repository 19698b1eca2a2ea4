use Rattle.gql_http.proofs.DataPresence.{call_then_lem}
use Rattle.gql_http.proofs.laws.call_then.Goals as goal

pub returns : goal.returns
returns c = call_then_lem
