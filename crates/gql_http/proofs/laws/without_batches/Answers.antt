use Rattle.gql_http.proofs.WithoutBatches.{without_batches_lem}
use Rattle.gql_http.proofs.laws.without_batches.Goals as goal

pub returns : goal.returns
returns c = without_batches_lem
