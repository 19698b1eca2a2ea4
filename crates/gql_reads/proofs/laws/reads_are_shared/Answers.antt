use Rattle.gql_reads.proofs.Owning.{joined, split}
use Rattle.gql_reads.proofs.laws.reads_are_shared.Goals as goal

pub returns : goal.returns
returns c facts d k = (λ r. split facts d r, λ q. joined facts d q)
