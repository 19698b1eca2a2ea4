use Rattle.std.proofs.Common.{rules, subst}
use Rattle.gql_registry.specs.Keeping.{Keeping}
use Rattle.gql_registry.specs.Report.{IsReport}
use Rattle.gql_registry.proofs.kept.Kept.count.Goals as goal

pub returns : goal.returns
returns c =
    (c.self.inside.known.report.items, subst (λ (k : Keeping). IsReport k.files c.self.inside.known.report.items) c.self.view_is c.self.invariant.known_of.report, search rules)
