use Rattle.gql_facts.proofs.Agreement.{reads_there, reads_back, reaches_there, reaches_back}
use Rattle.gql_facts.proofs.laws.same_view.Goals as goal

pub returns : goal.returns
returns c = λ v u d agree. record {
  reads = λ k. (λ r. reads_there v u d agree r, λ r. reads_back v u d agree r);
  reaches = λ g. (λ r. reaches_there v u d agree r, λ r. reaches_back v u d agree r);
  answers = λ k r. agree k (reads_back v u d agree r);
}
