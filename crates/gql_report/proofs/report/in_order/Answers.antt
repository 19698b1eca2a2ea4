use Rattle.gql_report.proofs.Ordered.{same_members}
use Rattle.gql_report.proofs.report.in_order.Goals as goal

pub returns-clause-members : goal.returns-clause-members
returns-clause-members c = same_members c.args.faults.items c.in_ok-all.all.items c.sort_each_once.new.all.items c.in_ok-report.report.items
    c.in_ok-all.ensures c.in_ok-sort_each_once.ensures.members c.in_ok-report.ensures
