use Rattle.gql_coerce.proofs.Named.{named_refusals}
use Rattle.gql_coerce.proofs.laws.named_refusals.Goals as goal

pub returns : goal.returns
returns c = named_refusals
