use Rattle.gql_merge.proofs.Appending.{two}
use Rattle.gql_merge.proofs.checking.check_fields.Goals as goal

pub returns : goal.returns
returns c = two c.args.faults.now.items _ _ _ _ c.in_ok-check.ensures c.in_ok-check-2.ensures
