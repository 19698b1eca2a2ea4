use Rattle.gql_report.proofs.Ordered.{AreAdjacent}
use Rattle.gql_report.proofs.report.is_ordered.Given as goal

abbrev pub invariant-loop-i : goal.invariant-loop-i
invariant-loop-i l = AreAdjacent l.all l.i
