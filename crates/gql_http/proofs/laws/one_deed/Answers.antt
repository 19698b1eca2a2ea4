use Rattle.gql_http.proofs.Determined.{one_deed_lem}
use Rattle.gql_http.proofs.laws.one_deed.Goals as goal

pub returns : goal.returns
returns c = one_deed_lem c.one_outcome.ensures.edit c.one_outcome.ensures.call c.one_outcome.ensures.report c.one_split.ensures
