use Rattle.gql_http.proofs.KeptLimit.{run_keeps}
use Rattle.gql_http.proofs.laws.run_keeps_profile.Goals as goal

pub returns : goal.returns
returns c = run_keeps
