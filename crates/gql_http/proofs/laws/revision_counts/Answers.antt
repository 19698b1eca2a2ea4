use Rattle.gql_http.proofs.Revisions.{revision_counts_lem}
use Rattle.gql_http.proofs.laws.revision_counts.Goals as goal

pub returns : goal.returns
returns c = revision_counts_lem c.one_load.ensures.one
