-- What the examinations of one edit share.
use Rattle.gql_facts.specs.Worlds.{Facts}
use Rattle.gql_merge.specs.Clean.{AreClean}
use Rattle.gql_pairs.specs.Tables as of_pairs
use Rattle.gql_reads.specs.Tables.{AllHold}
use Rattle.gql_verdict.specs.declared.shared_work.SharedWork.{SharedWork}

-- what was observed of fragments and of pairs of them holds, and those that are known to be clean are
pub record Holds (facts : Facts) (work : SharedWork) : Type 0 where
  pub reads : AllHold facts work.reads
  pub clean : AreClean facts work.clean
  pub pairs : of_pairs.AllHold facts work.pairs
