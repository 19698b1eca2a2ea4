use Rattle.gql_http.proofs.DataPresence.{data_present_lem}
use Rattle.gql_http.proofs.laws.data_present.Goals as goal

pub returns : goal.returns
returns c = data_present_lem c.one_load.ensures.one c.data_left.ensures
