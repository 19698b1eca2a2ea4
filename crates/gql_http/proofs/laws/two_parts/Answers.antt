use Rattle.gql_http.proofs.TwoParts.{two_parts_lem}
use Rattle.gql_http.proofs.laws.two_parts.Goals as goal

pub returns : goal.returns
returns c = two_parts_lem c.some_split.ensures c.one_split.ensures c.more_bytes.ensures
