use Rattle.std.proofs.Common.{rules, subst}
use Rattle.gql_registry.proofs.Reports.{AreSame, of_schema_alone}
use Rattle.gql_registry.proofs.report.schema_report.Goals as goal

pub returns-in_err-shared : goal.returns-in_err-shared
returns-in_err-shared c = search rules

pub returns-in_err-report : goal.returns-in_err-report
returns-in_err-report c = search rules

pub returns : goal.returns
returns c = λ files lists. (
  c.in_ok-report.ensures.ordered,
  of_schema_alone files _ _ c.requires lists (subst (λ xs. AreSame c.in_ok-report.report.items xs) c.in_ok-shared.ensures c.in_ok-report.ensures.members),
)
