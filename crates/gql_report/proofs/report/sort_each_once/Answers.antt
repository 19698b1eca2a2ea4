use Rattle.gql_report.proofs.Ordered as ordered
use Rattle.gql_report.proofs.report.sort_each_once.Goals as goal

pub returns-clause-ordered : goal.returns-clause-ordered
returns-clause-ordered c = ordered.ordered c.args.all.now.items c.sort.new.self.items c.dedup.new.self.items c.dedup.ensures.filtered c.in_ok-sort.ensures.sorted

pub returns-clause-members : goal.returns-clause-members
returns-clause-members c = ordered.members c.args.all.now.items c.sort.new.self.items c.dedup.new.self.items c.dedup.ensures.filtered c.sort.ensures.permutation
