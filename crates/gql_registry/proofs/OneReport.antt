-- Files have one report.
use Rattle.gql_report.specs.Laws.{OneOrder}
use Rattle.gql_registry.specs.Laws.{OneReport}

pub one_report : OneOrder → OneReport
one_report order files a b is_a is_b = order a b is_a.0 is_b.0 (λ f. (λ h. (is_b.1 f).1 ((is_a.1 f).0 h), λ h. (is_a.1 f).1 ((is_b.1 f).0 h)))
