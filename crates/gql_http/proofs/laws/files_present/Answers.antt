use Rattle.gql_http.proofs.Presence.{files_present_lem}
use Rattle.gql_http.proofs.laws.files_present.Goals as goal

pub returns : goal.returns
returns c = files_present_lem c.one_load.ensures.one c.holds_after.ensures
